-- What is known of the parts of a message of a type, field by field.
use Rattle.std.specs.Prelude.{◌≡◌, ◌≢◌, ◌⊎◌, ⊤, ℕ, ◌^◌, ◌<◌, ◌≤◌, List, [], ◌∷◌, map, filter, flat_map, length, true, false, Option, Some, None}
use Rattle.std.specs.List.{AllByRecursion}
use Rattle.pg_schema.specs.declared.parts.field.TypeId.{TypeId}
use Rattle.pg_schema.specs.declared.parts.field.Element.{Element}
use Rattle.pg_schema.specs.declared.parts.field.Element.TheVariants as elements
use Rattle.pg_schema.specs.declared.parts.field.Presence.{Presence}
use Rattle.pg_schema.specs.declared.parts.field.Presence.TheVariants as presences
use Rattle.pg_schema.specs.Shape.{Shape, FieldShape, fields, field_at}
use Rattle.pg_schema.specs.ShapeRules.{IsShape}
use Rattle.pg_wire.specs.declared.record.WireType.TheVariants.{Len}
use Rattle.pg_wire.specs.Records.{WireRecord, written}
use Rattle.pg_dyn.specs.message.Message.{Leaf, Message, Part, ends, holds, nests, is_of}
use Rattle.pg_dyn.specs.word.Coding.{body, form}
use Rattle.pg_dyn.specs.laws.Bodies.{IsNestedLeaf, IsReadAs, entry_body, record_with}
use Rattle.pg_dyn.specs.fitting.Belonging.{IsMessage, KeyFits, MayBeZero, MayFollow}
use Rattle.pg_dyn.specs.views.Comparison.{View, comparands, writes}
use Rattle.pg_dyn.specs.reading.Content.{is_sibling, same_oneof}
use Rattle.pg_dyn.specs.encoding.Writing.{key_of}
use Rattle.pg_dyn.specs.encoding.Encoding.{cap, child_type, enc, encoded_parts}

-- a part that a field of this number may hold
pub record FitsField (number : ℕ) (p : Presence) (e : Element) (part : Part Leaf) : Type 0 where
  pub number_is : part.number ≡ number
  pub key_fits : KeyFits p part.key
  pub reads : IsReadAs (form e) (body (form e) part.item) part.item
  pub may_be_zero : MayBeZero p part.item
  pub nested : IsNestedLeaf e part.item

-- a map's key is read from its body
abbrev pub KeyIsRead : Presence → (Leaf → List ℕ) → Option Leaf → Type 0
KeyIsRead (presences.Map key) key_body (Some k) = IsReadAs (form (elements.Scalar key)) (key_body k) k
KeyIsRead (presences.Map key) key_body None = ⊥
KeyIsRead presences.Implicit key_body k = ⊤
KeyIsRead presences.Explicit key_body k = ⊤
KeyIsRead (presences.Repeated packed) key_body k = ⊤

-- a part that the field of this number may hold, where its key and item are read from these bodies
pub record FitsFrom (key_body item_body : Leaf → List ℕ) (number : ℕ) (p : Presence) (e : Element) (part : Part Leaf) : Type 0 where
  pub number_is : part.number ≡ number
  pub key_fits : KeyFits p part.key
  pub key_read : KeyIsRead p key_body part.key
  pub reads : IsReadAs (form e) (item_body part.item) part.item
  pub may_be_zero : MayBeZero p part.item
  pub nested : IsNestedLeaf e part.item

-- the records of a field whose keys and items have these bodies
abbrev pub records_with : (Leaf → List ℕ) → (Leaf → List ℕ) → FieldShape → List (Part Leaf) → List WireRecord
records_with key_body item_body f ps = of f.presence
  where
    each : List WireRecord
    each = map (λ (p : Part Leaf). record_with f.number f.element (item_body p.item)) ps

    packed : List (Part Leaf) → List WireRecord
    packed [] = []
    packed (q ∷ qs) = written f.number Len (flat_map (λ (r : Part Leaf). item_body r.item) (q ∷ qs)) ∷ []

    of : Presence → List WireRecord
    of presences.Implicit = each
    of presences.Explicit = each
    of (presences.Repeated true) = packed ps
    of (presences.Repeated false) = each
    of (presences.Map key) = map (λ (p : Part Leaf). written f.number Len (entry_body key f.element (key_body (key_of key p)) (item_body p.item))) ps

-- parts of one field in order: a singular field has at most one, a map's keys rise
abbrev pub Ordered : Presence → List (Part Leaf) → Type 0
Ordered p [] = ⊤
Ordered p (q ∷ qs) = AllByRecursion (λ r. MayFollow p q.key r.key) qs × Ordered p qs

-- bodies of a length that a varint can say
abbrev pub ShortBodies : List WireRecord → Type 0
ShortBodies rs = AllByRecursion (λ r. length r.body < 2 ^ 64) rs

-- The parts of a field fit it, and are in order.
abbrev pub OwnPartsFit : Type 0
OwnPartsFit =
    (shape : Shape) (type : TypeId) (m : Message) (f : FieldShape) → IsShape shape → IsMessage shape type m → field_at (fields shape type) f.number ≡ Some f →
    AllByRecursion (FitsField f.number f.presence f.element) (filter (is_of f.number) (encoded_parts shape type m))
    × Ordered f.presence (filter (is_of f.number) (encoded_parts shape type m))

-- Of two members of one oneof one has no parts.
abbrev pub OneIsEmpty : Type 0
OneIsEmpty =
    (shape : Shape) (type : TypeId) (m : Message) (f g : FieldShape) → IsShape shape → IsMessage shape type m →
    field_at (fields shape type) f.number ≡ Some f → field_at (fields shape type) g.number ≡ Some g → is_sibling f g ≡ true →
    (filter (is_of f.number) (encoded_parts shape type m) ≡ []) ⊎ (filter (is_of g.number) (encoded_parts shape type m) ≡ [])

-- Siblings are so either way round, and have two numbers.
abbrev pub SiblingsMutual : Type 0
SiblingsMutual =
    ((a b : Option ℕ) → same_oneof a b ≡ true → same_oneof b a ≡ true)
    × ((f g : FieldShape) → is_sibling f g ≡ true → is_sibling g f ≡ true)
    × ((f g : FieldShape) → is_sibling f g ≡ true → f.number ≢ g.number)

-- each child has fewer bytes than that number
abbrev pub ChildrenShorter : Shape → TypeId → ℕ → Message → Type 0
ChildrenShorter shape type n (ends unknown) = ⊤
ChildrenShorter shape type n (holds number key leaf later) = ChildrenShorter shape type n later
ChildrenShorter shape type n (nests number key child later) =
    (length (enc shape (child_type (fields shape type) number) child) < n) × ChildrenShorter shape type n later

-- Each child of a message has fewer bytes than the message.
abbrev pub ChildrenAreShorter : Type 0
ChildrenAreShorter =
    (shape : Shape) (type : TypeId) (m : Message) → IsShape shape → IsMessage shape type m → length (enc shape type m) ≤ cap →
    ChildrenShorter shape type (length (enc shape type m)) m

-- The comparands of an old message, as they are written, are what the encoding is made of.
abbrev pub ComparandsAreWritten : Type 0
ComparandsAreWritten = (view : View) (old new : Shape) (a b : TypeId) (v : Message) → map writes (comparands view old new a b v) ≡ encoded_parts old a v
