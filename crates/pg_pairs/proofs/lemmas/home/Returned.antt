-- Comparands that the new type reads and writes again are seen by the old one.
use Rattle.std.proofs.Common.{◌≡◌, ℕ, ◌≤◌, List, ◌∷◌, map, filter, true, false, Option, Some, None, option_map, is_some, unwrap_or, refl, ap, sym, ◌∙◌, subst, length, Bool, rules}
use Rattle.std.specs.List.{AllByRecursion}
use Rattle.pg_schema.specs.declared.parts.field.TypeId.{TypeId}
use Rattle.pg_schema.specs.declared.parts.field.Element.{Element}
use Rattle.pg_schema.specs.declared.parts.field.Element.TheVariants as elements
use Rattle.pg_schema.specs.Shape.{Shape, FieldShape, fields, field_at}
use Rattle.pg_dyn.specs.message.Message.{Leaf, Int, F32, F64, Bytes, Item, Plain, Msg, Message, ends, holds, nests, Part, parts, is_of, leaf_eq}
use Rattle.pg_dyn.specs.word.Coding.{form, body, InRange}
use Rattle.pg_dyn.specs.laws.Bodies.{IsReadAs, IsNestedLeaf}
use Rattle.pg_dyn.specs.reading.Decoding.{Reader, dec, is_child, read_item}
use Rattle.pg_dyn.specs.encoding.Encoding.{cap, child_type, element_type, enc, encoded_parts}
use Rattle.pg_dyn.specs.fitting.Belonging.{IsMessage}
use Rattle.pg_dyn.specs.laws.OwnParts.{ChildrenShorter}
use Rattle.pg_dyn.specs.views.Comparison.{numbers, Comparand, writes, Alike, alike_leaves, Kept}
use Rattle.pg_dyn.proofs.Lists.{each_weaker, filter-map, map_map, map_same}
use Rattle.pg_pairs.specs.gaps.Likeness.{like}
use Rattle.pg_pairs.specs.laws.ReadBack.{is_bool_of_zigzag}
use Rattle.pg_pairs.proofs.lemmas.bounds.Across.{Seen, item_read, reads}
use Rattle.pg_pairs.proofs.lemmas.home.ReadBack.{seen_items_have_one_body}
use Rattle.pg_dyn.proofs.PublicLaws.{bodies_read_again, equal_leaves, fields_are_found}
use Rattle.std.specs.Bool.{⊤}

abbrev pub leaf_again : Shape → TypeId → Item → Leaf
leaf_again shape type (Plain leaf) = leaf
leaf_again shape type (Msg m) = Bytes (enc shape type m)

abbrev pub part_again : Shape → TypeId → Part Item → Part Leaf
part_again shape type p = record {
  number = p.number;
  key = p.key;
  item =
      leaf_again shape (child_type (fields shape type) p.number) p.item;
}

-- the comparand that the new type writes again
abbrev pub returned : Shape → Element → Comparand → Comparand
returned new d h = record {
  number = h.number;
  key = h.key;
  written =
      leaf_again new (element_type d) (item_read (dec new) d h.written);
  expected = h.expected;
}

-- an item of a message that has an encoding
abbrev pub IsGood : Shape → TypeId → Item → Type 0
IsGood new t (Plain leaf) = ⊤
IsGood new t (Msg m) = IsMessage new t m × (length (enc new t m) ≤ cap)

-- a leaf in range, or a child whose message returns
abbrev pub ComesBack : Shape → Shape → Element → Element → Comparand → Type 0
ComesBack old new (elements.Scalar s) d h = InRange (form (elements.Scalar s)) h.written × (h.expected ≡ Alike h.written)
ComesBack old new (elements.Enum s) d h = InRange (form (elements.Enum s)) h.written × (h.expected ≡ Alike h.written)
ComesBack old new (elements.Message s) (elements.Message t) h =
    (bytes : List ℕ) × (test : Message → Bool) × (h.written ≡ Bytes bytes) × (h.expected ≡ Kept test)
    × ((m : Message) → dec new t bytes ≡ Some m → IsGood new t (Msg m) →
    (x : Message) × (dec old s (enc new t m) ≡ Some x) × (test x ≡ true))
ComesBack old new (elements.Message s) (elements.Scalar t) h = ⊤
ComesBack old new (elements.Message s) (elements.Enum t) h = ⊤

-- The parts of a message as it is encoded.

pub encoded_again : (shape : Shape) (type : TypeId) (m : Message) → encoded_parts shape type m ≡ map (part_again shape type) (parts m)
unfolding enc
encoded_again shape type (ends unknown) = refl
encoded_again shape type (holds number key leaf later) = ap (λ ps. record { number = number; key = key; item = leaf } ∷ ps) (encoded_again shape type later)
encoded_again shape type (nests number key child later) =
    ap (λ ps. record { number = number; key = key; item = Bytes (enc shape (child_type (fields shape type) number) child) } ∷ ps) (encoded_again shape type later)

pub type_at : (gs : List FieldShape) (n : ℕ) (g : FieldShape) → field_at gs n ≡ Some g → child_type gs n ≡ element_type g.element
type_at gs n g at = rw at refl

-- the parts that are read of a number's comparands are encoded as their returned comparands are written
pub written_again : (new : Shape) (b : TypeId) (w : Message) (n : ℕ) (g : FieldShape) → field_at (fields new b) n ≡ Some g → (hs : List Comparand) → AllByRecursion (λ (h : Comparand). h.number ≡ n) hs → filter (is_of n) (parts w) ≡ map (reads (dec new) g.element) hs → filter (is_of n) (encoded_parts new b w) ≡ map writes (map (returned new g.element) hs)
written_again new b w n g at hs numbered read =
    ap (filter (is_of n)) (encoded_again new b w)
    ∙ filter-map (is_of n) (part_again new b) (parts w)
    ∙ ap (map (part_again new b)) read
    ∙ map_map (part_again new b) (reads (dec new) g.element) hs
    ∙ map_same (λ h. part_again new b (reads (dec new) g.element h)) (λ h. writes (returned new g.element h)) hs
    (each_weaker (λ h. h.number ≡ n) (λ h. part_again new b (reads (dec new) g.element h) ≡ writes (returned new g.element h))
    (λ h is. ap (λ t. record { number = h.number; key = h.key; item = leaf_again new t (item_read (dec new) g.element h.written) }) (ap (child_type (fields new b)) is ∙ type_at (fields new b) n g at))
    hs numbered)
    ∙ sym (map_map writes (returned new g.element) hs)

-- The children of a message of a type, with their type and their lengths.

pub good_parts : (new : Shape) (b : TypeId) (n : ℕ) → n ≤ cap → (w : Message) → IsMessage new b w → ChildrenShorter new b n w → AllByRecursion (λ p. IsGood new (child_type (fields new b) p.number) p.item) (parts w)
good_parts new b n small (ends unknown) is shorter = tt
good_parts new b n small (holds number key leaf later) is shorter = (tt, good_parts new b n small later is.2 shorter)
good_parts new b n small (nests number key child later) is shorter =
    search (rules, good_parts new b n small later is.4 shorter.1, fields_are_found)

-- An item and its body.

-- what is known of a comparand that the new type reads
pub record IsRead (child : Reader) (e d : Element) (h : Comparand) : Type 0 where
  pub body_read : IsReadAs (form d) (body (form e) h.written) h.written
  pub child_there : is_child child d (body (form e) h.written) ≡ true

self : (leaf : Leaf) → leaf_eq leaf leaf ≡ true
self leaf = (equal_leaves leaf leaf).1 refl

abbrev of_element : FieldShape → Element → FieldShape
of_element f e = record { number = f.number; presence = f.presence; element = e; oneof = f.oneof }

-- by numbers an item is itself
pub alike_self : (d e : Element) (leaf : Leaf) → alike_leaves numbers d e leaf leaf ≡ true
alike_self (elements.Enum s) (elements.Enum t) (Int n) = rw (self (Int n)) refl
alike_self (elements.Enum s) (elements.Enum t) (F32 n) = self (F32 n)
alike_self (elements.Enum s) (elements.Enum t) (F64 n) = self (F64 n)
alike_self (elements.Enum s) (elements.Enum t) (Bytes n) = self (Bytes n)
alike_self (elements.Enum s) (elements.Scalar t) leaf = self leaf
alike_self (elements.Enum s) (elements.Message t) leaf = self leaf
alike_self (elements.Scalar s) e leaf = self leaf
alike_self (elements.Message s) e leaf = self leaf

-- a body of the new type's is read as the item by the old one
pub back_read : (e d : Element) (leaf : Leaf) → like e d ≡ true → is_bool_of_zigzag e d ≡ false → InRange (form e) leaf → IsReadAs (form d) (body (form e) leaf) leaf → IsReadAs (form e) (body (form d) leaf) leaf
back_read e d leaf is_like apart range read =
    subst (λ bytes. IsReadAs (form e) bytes leaf) (sym (seen_items_have_one_body e d leaf is_like apart range read.read)) (bodies_read_again e leaf range)

message_there : (o : Option Message) (fallback : Item) → is_some o ≡ true → (m : Message) × (o ≡ Some m) × (unwrap_or (option_map Msg o) fallback ≡ Msg m)
message_there (Some m) fallback h = (m, refl, refl)
message_there None fallback h = absurd (cc)

module _ (old new : Shape) (f g : FieldShape) (numbers_are : g.number ≡ f.number) where
  abbrev Back : Element → Element → Comparand → Type 0
  Back e d h = Seen numbers (dec old) (of_element g d) (of_element f e) (returned new d h)

  leaf_back : (e d : Element) (h : Comparand) → h.number ≡ f.number → like e d ≡ true → is_bool_of_zigzag e d ≡ false → InRange (form e) h.written → h.expected ≡ Alike h.written → IsReadAs (form d) (body (form e) h.written) h.written
      → item_read (dec new) d h.written ≡ Plain h.written → ((bytes : List ℕ) → is_child (dec old) e bytes ≡ true) → ((leaf : Leaf) → read_item (dec old) e leaf ≡ Some (Plain leaf)) → ((leaf : Leaf) → IsNestedLeaf e leaf) → Back e d h
  leaf_back e d h number is_like apart range expected read item child_is read_is nested =
      search (rules, back_read, alike_self)

  -- the comparands of like elements
  pub back_seen : (e d : Element) (h : Comparand) → h.number ≡ f.number → like e d ≡ true → is_bool_of_zigzag e d ≡ false → IsRead (dec new) e d h → IsGood new (element_type d) (item_read (dec new) d h.written) → ComesBack old new e d h → Back e d h
  back_seen (elements.Scalar s) (elements.Scalar t) h number is_like apart read good back = leaf_back (elements.Scalar s) (elements.Scalar t) h number is_like apart back.0 back.1 read.body_read refl (λ bytes. refl) (λ leaf. refl) (λ leaf. tt)
  back_seen (elements.Scalar s) (elements.Enum t) h number is_like apart read good back = leaf_back (elements.Scalar s) (elements.Enum t) h number is_like apart back.0 back.1 read.body_read refl (λ bytes. refl) (λ leaf. refl) (λ leaf. tt)
  back_seen (elements.Enum s) (elements.Scalar t) h number is_like apart read good back = leaf_back (elements.Enum s) (elements.Scalar t) h number is_like apart back.0 back.1 read.body_read refl (λ bytes. refl) (λ leaf. refl) (λ leaf. tt)
  back_seen (elements.Enum s) (elements.Enum t) h number is_like apart read good back = leaf_back (elements.Enum s) (elements.Enum t) h number is_like apart back.0 back.1 read.body_read refl (λ bytes. refl) (λ leaf. refl) (λ leaf. tt)
  back_seen (elements.Scalar s) (elements.Message t) h number is_like apart read good back = absurd (cc)
  back_seen (elements.Enum s) (elements.Message t) h number is_like apart read good back = absurd (cc)
  back_seen (elements.Message s) (elements.Scalar t) h number is_like apart read good back = absurd (cc)
  back_seen (elements.Message s) (elements.Enum t) h number is_like apart read good back = absurd (cc)
  back_seen (elements.Message s) (elements.Message t) h number is_like apart read good back =
      search (rules, message_there, is_some, item_read)
