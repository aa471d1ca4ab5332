-- What two types see of one message (this profile's choice: what it means that nothing is lost).
use Rattle.std.specs.Prelude.{ℕ, ℤ, List, [], ◌∷◌, ◌++◌, map, filter, Bool, true, false, not, ◌&&◌, ◌||◌, Option, Some, None, is_none}
use Rattle.std.specs.List.{list_all}
use Rattle.std.specs.Str.{bytes_eq}
use lib.Pointwise.{pointwise}
use Rattle.pg_schema.specs.declared.parts.field.TypeId.{TypeId}
use Rattle.pg_schema.specs.declared.parts.field.EnumId.{EnumId}
use Rattle.pg_schema.specs.declared.parts.field.Element.{Element}
use Rattle.pg_schema.specs.declared.parts.field.Element.TheVariants as elements
use Rattle.pg_schema.specs.Shape.{Shape, FieldShape, fields, field_at, is_singular, is_implicit}
use Rattle.pg_wire.specs.Records.{WireRecord}
use Rattle.pg_dyn.specs.message.Message.{Leaf, Int, Bytes, Item, Plain, Msg, Message, ends, holds, nests, Part, parts, unknown_of, is_of, is_zero, leaf_eq}
use Rattle.pg_dyn.specs.encoding.Writing.{records_in, bytes_of}
use Rattle.pg_dyn.specs.encoding.Encoding.{child_type, encoded_parts}

-- whether a number of the old enum is the same item in the new one
abbrev pub View : Type 0
View = EnumId → EnumId → ℤ → Bool

-- every number is
abbrev pub numbers : View
numbers old new n = true

-- an old item, as a test of the item that the new type has for it
pub data Expected : Type 0 where
  Alike : Leaf → Expected
  Kept : (Message → Bool) → Expected

abbrev pub is_zero_expected : Expected → Bool
is_zero_expected (Alike leaf) = is_zero leaf
is_zero_expected (Kept test) = false

abbrev pub is_zero_item : Item → Bool
is_zero_item (Plain leaf) = is_zero leaf
is_zero_item (Msg m) = false

-- Between two singular fields of which at least one is implicit zero items aren't shown.
abbrev pub hides_zero : FieldShape → FieldShape → Bool
hides_zero f g = is_singular f.presence && is_singular g.presence && (is_implicit f.presence || is_implicit g.presence)

-- the parts of a field that are shown
abbrev pub shown : {A : Type 0} → (A → Bool) → Bool → ℕ → List (Part A) → List (Part A)
shown is_zero_one hidden number ps = filter (λ p. is_of number p && not (hidden && is_zero_one p.item)) ps

abbrev pub alike_leaves : View → Element → Element → Leaf → Leaf → Bool
alike_leaves view (elements.Enum old) (elements.Enum new) (Int m) (Int n) = leaf_eq (Int m) (Int n) && view old new m
alike_leaves view f g a b = leaf_eq a b

abbrev pub same_key : Option Leaf → Option Leaf → Bool
same_key None None = true
same_key None (Some l) = false
same_key (Some k) None = false
same_key (Some k) (Some l) = leaf_eq k l

abbrev pub matches : View → FieldShape → FieldShape → Expected → Item → Bool
matches view f g (Alike a) (Plain b) = alike_leaves view f.element g.element a b
matches view f g (Alike a) (Msg m) = false
matches view f g (Kept test) (Plain b) = false
matches view f g (Kept test) (Msg m) = test m

-- the contents of one field are equal: as many parts, with equal keys, and each item is met
abbrev pub same_content : View → FieldShape → FieldShape → List (Part Expected) → List (Part Item) → Bool
same_content view f g old new =
    pointwise (λ (p : Part Expected) (q : Part Item). same_key p.key q.key && matches view f g p.item q.item)
    (shown is_zero_expected (hides_zero f g) f.number old) (shown is_zero_item (hides_zero f g) f.number new)

-- fields with a number that the other type doesn't have, and records likewise
abbrev pub outside : List FieldShape → List FieldShape → List FieldShape
outside fs gs = filter (λ f. is_none (field_at gs f.number)) fs

abbrev pub records_outside : List FieldShape → List WireRecord → List WireRecord
records_outside gs rs = filter (λ r. is_none (field_at gs r.number)) rs

-- the shared fields have the same content, and the reader's unknown records outside its type are those that the writer wrote
abbrev pub same_message : View → List FieldShape → List FieldShape → List (Part Expected) → List ℕ → Message → Bool
same_message view fs gs old unshared new =
    list_all (λ f. of f (field_at gs f.number)) fs && bytes_eq (bytes_of (records_outside gs (unknown_of new))) unshared
  where
    of : FieldShape → Option FieldShape → Bool
    of f (Some g) = same_content view f g old (parts new)
    of f None = true

-- what the writer wrote for the fields outside the new type
abbrev pub unshared_bytes : Shape → TypeId → List FieldShape → Message → List ℕ
unshared_bytes old type gs v = bytes_of (records_in (outside (fields old type) gs) (encoded_parts old type v))

-- a part of an old message: as its writer writes it, and as the new type must have it
pub record Comparand : Type 0 where
  pub number : ℕ
  pub key : Option Leaf
  pub written : Leaf
  pub expected : Expected

abbrev pub writes : Comparand → Part Leaf
writes c = record { number = c.number; key = c.key; item = c.written }

abbrev pub expects : Comparand → Part Expected
expects c = record { number = c.number; key = c.key; item = c.expected }

-- the parts of an old message, each seen so twice
abbrev pub comparands : View → Shape → Shape → TypeId → TypeId → Message → List Comparand
comparands view old new a b (ends unknown) = []
comparands view old new a b (holds number key leaf later) =
    record { number = number; key = key; written = leaf; expected = Alike leaf } ∷ comparands view old new a b later
comparands view old new a b (nests number key child later) =
    let of_old = child_type (fields old a) number in
    let of_new = child_type (fields new b) number in
    let child_comparands = comparands view old new of_old of_new child in
    record {
      number = number;
      key = key;
      written = Bytes (bytes_of (records_in (fields old of_old) (encoded_parts old of_old child)) ++ bytes_of (unknown_of child));
      expected = Kept (same_message view (fields old of_old) (fields new of_new) (map expects child_comparands) (unshared_bytes old of_old (fields new of_new) child));
    } ∷ comparands view old new a b later

-- the parts as the new type must have them
abbrev pub expected : View → Shape → Shape → TypeId → TypeId → Message → List (Part Expected)
expected view old new a b v = map expects (comparands view old new a b v)

-- the new type's reader reads w where the old type's writer meant v
unfoldable pub same : View → Shape → Shape → TypeId → TypeId → Message → Message → Bool
same view old new a b v = same_message view (fields old a) (fields new b) (expected view old new a b v) (unshared_bytes old a (fields new b) v)
