-- A set that is decoded is held: the written schema has strings, int32 numbers, marks, enums and messages, and nothing else. So its items are
-- said.
use Rattle.std.proofs.Common.{◌≡◌, ℕ, zero, suc, ℤ, pos, negsuc, Bool, true, false, cond, nat_eq, List, [], ◌∷◌, map, filter, get_or, Option, Some, None, refl, ap, sym, subst, ◌∙◌, Bor, IfSome, MatchOption, rules}
use Rattle.std.proofs.lemmas.Bool.{false≢true}
use Rattle.std.proofs.lemmas.Option.{none-some, same_Some}
use Rattle.std.specs.Prelude.{FitsSigned}
use Rattle.std.specs.Int.{w32}
use Rattle.std.specs.List.{AllByRecursion, list_all}
use Rattle.pg_schema.specs.declared.parts.field.Element.{Element}
use Rattle.pg_schema.specs.declared.parts.field.Element.TheVariants as elements
use Rattle.pg_schema.specs.declared.parts.field.Scalar.{Scalar}
use Rattle.pg_schema.specs.declared.parts.field.Scalar.TheVariants as scalars
use Rattle.pg_schema.specs.declared.parts.field.TypeId.{TypeId}
use Rattle.pg_schema.specs.Shape.{FieldShape, Shape, field_at, fields}
use Rattle.pg_schema.proofs.lemmas.rules.PairLemmas.{and_left, and_right}
use Rattle.pg_dyn.specs.declared.message_ref.ContentRef.{ContentRef}
use Rattle.pg_dyn.specs.declared.message_ref.ContentRef.TheVariants as contents
use Rattle.pg_dyn.specs.declared.message_ref.EntryRef.{EntryRef}
use Rattle.pg_dyn.specs.declared.message_ref.ValueRef.{ValueRef}
use Rattle.pg_dyn.specs.declared.message_ref.ValueRef.TheVariants as values
use Rattle.pg_dyn.specs.fitting.Belonging.{IsMessage, LeafFits}
use Rattle.pg_dyn.specs.encoding.Encoding.{child_type}
use Rattle.pg_dyn.specs.fitting.Fits.{Fits, PartsAgree, is_string, is_string_by}
use Rattle.pg_dyn.specs.message.Kept.{Kept, ends, holds, nests, message_of, type_of}
use Rattle.pg_dyn.specs.message.KeptParts.{KeptItem, parts_of}
use Rattle.pg_dyn.specs.message.KeptParts.{Plain, Msg, of_number}
use Rattle.pg_dyn.specs.message.Message.{Bytes, F32, F64, Int, Part, is_of}
use Rattle.pg_dyn.specs.message_ref.Borrowed.{content_seen, entry_part, item_part, item_seen}
use Rattle.pg_dyn.specs.word.NumberLists.{numbers_in}
use Rattle.pg_set.specs.descriptor.Descriptor.{written_shape, descriptor_shape}
use Rattle.pg_set.specs.inner.reading.Held.{AreSaid, IsHeldMessage, IsSaid}

-- ---- the schema

abbrev is_known_scalar : Scalar → Bool
is_known_scalar scalars.Double = false
is_known_scalar scalars.Float = false
is_known_scalar scalars.Int32 = true
is_known_scalar scalars.Int64 = false
is_known_scalar scalars.Uint32 = false
is_known_scalar scalars.Uint64 = false
is_known_scalar scalars.Sint32 = false
is_known_scalar scalars.Sint64 = false
is_known_scalar scalars.Fixed32 = false
is_known_scalar scalars.Fixed64 = false
is_known_scalar scalars.Sfixed32 = false
is_known_scalar scalars.Sfixed64 = false
is_known_scalar scalars.Bool = true
is_known_scalar scalars.String = true
is_known_scalar scalars.Bytes = false

abbrev is_known_element : Element → Bool
is_known_element (elements.Scalar s) = is_known_scalar s
is_known_element (elements.Message t) = true
is_known_element (elements.Enum e) = true

abbrev is_known_field : FieldShape → Bool
is_known_field f = is_known_element f.element

abbrev are_known : List FieldShape → Bool
are_known fs = list_all is_known_field fs

type_known : (shape : Shape) (place : ℕ) → list_all are_known shape ≡ true → are_known (get_or shape place []) ≡ true
type_known [] place all = refl
type_known (fs ∷ shape) zero all = and_left (are_known fs) (list_all are_known shape) all
type_known (fs ∷ shape) (suc place) all = type_known shape place (and_right (are_known fs) (list_all are_known shape) all)

field_known : (fs : List FieldShape) (number : ℕ) (f : FieldShape) → field_at fs number ≡ Some f → are_known fs ≡ true → is_known_field f ≡ true
field_known [] number f found all = absurd (none-some f found)
field_known (g ∷ fs) number f found all = of (nat_eq g.number number) found (λ later. field_known fs number f later (and_right (is_known_field g) (are_known fs) all))
  where
    of : (b : Bool) → cond b (Some g) (field_at fs number) ≡ Some f → (field_at fs number ≡ Some f → is_known_field f ≡ true) → is_known_field f ≡ true
    of true here later = subst (λ h. is_known_field h ≡ true) (same_Some g f here) (and_left (is_known_field g) (are_known fs) all)
    of false there later = later there

-- a leaf of bytes is one of a string field
of_string : (f : FieldShape) (e : Element) (bytes : List ℕ) → is_known_element e ≡ true → LeafFits (record f { element = e }) (Bytes bytes) → is_string e ≡ true
of_string f (elements.Message t) bytes kind fits = absurd fits
of_string f (elements.Enum e) bytes kind fits = absurd fits.0
of_string f (elements.Scalar s) bytes kind fits = search (rules, false≢true)

-- and one of a number is of 32 bits
number_held : (f : FieldShape) (e : Element) (n : ℤ) → is_known_element e ≡ true → LeafFits (record f { element = e }) (Int n) → FitsSigned w32 n
number_held f (elements.Message t) n known fits = absurd fits
number_held f (elements.Enum e) (pos n) known fits = record { sfits = fits.0 }
number_held f (elements.Enum e) (negsuc n) known fits = record { sfits = fits.0 }
number_held f (elements.Scalar s) n known fits = search (rules, false≢true)

-- there are no floats
no_float : (f : FieldShape) (e : Element) (bits : ℕ) → is_known_element e ≡ true → LeafFits (record f { element = e }) (F32 bits) → ⊥
no_float f (elements.Message t) bits known fits = fits
no_float f (elements.Enum e) bits known fits = fits.0
no_float f (elements.Scalar s) bits known fits = search (rules, false≢true)

no_double : (f : FieldShape) (e : Element) (bits : ℕ) → is_known_element e ≡ true → LeafFits (record f { element = e }) (F64 bits) → ⊥
no_double f (elements.Message t) bits known fits = fits
no_double f (elements.Enum e) bits known fits = fits.0
no_double f (elements.Scalar s) bits known fits = search (rules, false≢true)

-- ---- messages of it

child_is : (fs : List FieldShape) (number : ℕ) (f : FieldShape) (of : TypeId) → field_at fs number ≡ Some f → f.element ≡ elements.Message of → child_type fs number ≡ of
child_is fs number f of found kind = rw (found, kind) refl

module _ (shape : Shape) (known : list_all are_known shape ≡ true) where
  -- the field of a number that a part of the message has
  known_at : (type : TypeId) (number : ℕ) (f : FieldShape) → field_at (fields shape type) number ≡ Some f → is_known_field f ≡ true
  known_at type number f found = field_known (fields shape type) number f found (type_known shape type.index known)

  message_held : (m : Kept) → IsMessage shape (type_of m) (message_of m) → PartsAgree shape m → IsHeldMessage m
  message_held (ends type unknown) is agree = tt
  message_held (holds number key manner (Int n) later) is agree =
      let f = is.0.field in (number_held f f.element n (known_at (type_of later) number f is.0.found) is.1, message_held later is.2 agree.2)
  message_held (holds number key manner (F32 bits) later) is agree =
      let f = is.0.field in no_float f f.element bits (known_at (type_of later) number f is.0.found) is.1
  message_held (holds number key manner (F64 bits) later) is agree =
      let f = is.0.field in no_double f f.element bits (known_at (type_of later) number f is.0.found) is.1
  message_held (holds number key manner (Bytes bytes) later) is agree =
      let f = is.0.field in
      let string = of_string f f.element bytes (known_at (type_of later) number f is.0.found) is.1 in
      (agree.1 ∙ ap is_string_by is.0.found ∙ string, message_held later is.2 agree.2)
  message_held (nests number key listed child later) is agree =
      let same : is.1 ≡ type_of child = sym (child_is (fields shape (type_of later)) number is.0.field is.1 is.0.found is.2) ∙ agree.1 in
      (message_held child (subst (λ t. IsMessage shape t (message_of child)) same is.3) agree.2, message_held later is.4 agree.3)

pub set_held : (set : Kept) → Fits written_shape set → IsHeldMessage set
unfolding written_shape
set_held set fits = message_held descriptor_shape refl set fits.is_message fits.parts_agree

-- ---- items

abbrev IsHeldItem : KeptItem → Type 0
IsHeldItem (Plain manner (Int n)) = FitsSigned w32 n
IsHeldItem (Plain manner (F32 bits)) = ⊥
IsHeldItem (Plain manner (F64 bits)) = ⊥
IsHeldItem (Plain manner (Bytes bytes)) = manner.text ≡ true
IsHeldItem (Msg listed child) = IsHeldMessage child

abbrev IsHeldPart : Part KeptItem → Type 0
IsHeldPart p = IsHeldItem p.item

parts_held : (m : Kept) → IsHeldMessage m → AllByRecursion IsHeldPart (parts_of m)
parts_held (ends type unknown) all = tt
parts_held (holds number key manner (Int n) later) all = (all.0, parts_held later all.1)
parts_held (holds number key manner (F32 bits) later) all = absurd all
parts_held (holds number key manner (F64 bits) later) all = absurd all
parts_held (holds number key manner (Bytes bytes) later) all = (all.0, parts_held later all.1)
parts_held (nests number key listed child later) all = (all.0, parts_held later all.1)

filtered : (test : Part KeptItem → Bool) (ps : List (Part KeptItem)) → AllByRecursion IsHeldPart ps → AllByRecursion IsHeldPart (filter test ps)
filtered test [] all = tt
filtered test (p ∷ ps) all = search (rules, filtered test ps all.1)

item_said : (listed : Bool) (v : ValueRef) → IsHeldItem (item_seen listed v) → IsSaid v
item_said listed (values.Int n) is = is
item_said listed (values.F32 bits) is = is
item_said listed (values.F64 bits) is = is
item_said listed (values.Text text) is = tt
item_said listed (values.Bytes bytes) is = false≢true is
item_said listed (values.Msg child) is = is

items_said : (n : ℕ) (vs : List ValueRef) → AllByRecursion IsHeldPart (map (item_part n true) vs) → AllByRecursion IsSaid vs
items_said n [] all = tt
items_said n (v ∷ vs) all = (item_said true v all.0, items_said n vs all.1)

content_said : (n : ℕ) (content : ContentRef) → AllByRecursion IsHeldPart (content_seen n content) → AreSaid content
content_said n (contents.One v) all = (item_said false v all.0, tt)
content_said n (contents.Many vs) all = items_said n vs.items all
content_said n (contents.Numbers ns) all = items_said n (numbers_in ns) all
content_said n (contents.Map es) all = each es.items all
  where
    each : (es : List EntryRef) → AllByRecursion IsHeldPart (map (entry_part n) es) → AllByRecursion IsSaid (map (λ (e : EntryRef). e.value) es)
    each [] all = tt
    each (e ∷ es) all = (item_said false e.value all.0, each es all.1)

-- the items of a field of a held message
pub field_said : (n : ℕ) (m : Kept) (content : ContentRef) → of_number n m ≡ content_seen n content → IsHeldMessage m → AreSaid content
field_said n m content seen all = content_said n content (subst (AllByRecursion IsHeldPart) seen (filtered (is_of n) (parts_of m) (parts_held m all)))

pub found_said : (n : ℕ) (m : Kept) (r : Option (Bor ContentRef)) → MatchOption r (of_number n m ≡ []) (λ content. of_number n m ≡ content_seen n content.now) → IsHeldMessage m
    → IfSome r (λ content. AreSaid content.now)
found_said n m None none all = tt
found_said n m (Some content) seen all = field_said n m content.now seen all
