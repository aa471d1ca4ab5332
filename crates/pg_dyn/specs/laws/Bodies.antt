-- Bodies that are read as items, whichever element's writer made them (Encoding guide, "Message Structure", "Packed Repeated
-- Fields", "Maps").
use Rattle.std.specs.Prelude.{◌≡◌, ⊤, ℕ, ◌^◌, ◌<◌, List, [], ◌∷◌, ◌++◌, map, flat_map, length, true, Some, Ok}
use Rattle.std.specs.List.{AllByRecursion}
use Rattle.pg_schema.specs.declared.parts.field.Scalar.{Scalar}
use Rattle.pg_schema.specs.declared.parts.field.Element.{Element}
use Rattle.pg_schema.specs.declared.parts.field.Element.TheVariants as elements
use Rattle.pg_schema.specs.Shape.{FieldShape, is_packable}
use Rattle.pg_wire.specs.declared.record.WireType.TheVariants.{Len}
use Rattle.pg_wire.specs.Records.{WireRecord, records_of, written}
use Rattle.pg_dyn.specs.message.Message.{Leaf, Bytes}
use Rattle.pg_dyn.specs.word.Coding.{Form, HasShape, InRange, body, form, form_wire, leaf_in}
use Rattle.pg_dyn.specs.reading.Content.{entry_in, leaf_bytes, leaves_in, packed_leaves}
use Rattle.pg_dyn.specs.reading.Optional.{all_some}

-- a reader of that form reads the body as the item
pub record IsReadAs (f : Form) (bytes : List ℕ) (leaf : Leaf) : Type 0 where
  pub read : leaf_in f bytes ≡ Some leaf
  pub shape : HasShape (form_wire f) bytes

-- the bytes of a child are Bytes
abbrev pub IsNestedLeaf : Element → Leaf → Type 0
IsNestedLeaf (elements.Message t) leaf = leaf ≡ Bytes (leaf_bytes leaf)
IsNestedLeaf (elements.Scalar s) leaf = ⊤
IsNestedLeaf (elements.Enum e) leaf = ⊤

-- An item in range is read again from its own body.
abbrev pub BodiesReadAgain : Type 0
BodiesReadAgain = (e : Element) (leaf : Leaf) → InRange (form e) leaf → IsReadAs (form e) (body (form e) leaf) leaf

-- Bodies joined are read as a packed list of their items.
abbrev pub PackedBodiesRead : Type 0
PackedBodiesRead =
    (e : Element) (xs : List (List ℕ × Leaf)) → is_packable e ≡ true → AllByRecursion (λ (x : List ℕ × Leaf). IsReadAs (form e) x.0 x.1) xs →
    packed_leaves (form e) (flat_map (λ (x : List ℕ × Leaf). x.0) xs) ≡ Some (map (λ (x : List ℕ × Leaf). x.1) xs)

-- the record of a field with that body
abbrev pub record_with : ℕ → Element → List ℕ → WireRecord
record_with number element bytes = written number (form_wire (form element)) bytes

-- Bodies in records of their own are read as an item each.
abbrev pub SingleBodiesRead : Type 0
SingleBodiesRead =
    (f : FieldShape) (xs : List (List ℕ × Leaf)) → AllByRecursion (λ (x : List ℕ × Leaf). IsReadAs (form f.element) x.0 x.1) xs →
    all_some (map (leaves_in f) (map (λ (x : List ℕ × Leaf). record_with f.number f.element x.0) xs)) ≡ Some (map (λ (x : List ℕ × Leaf). x.1 ∷ []) xs)

-- the two records of an entry whose key and value have these bodies
abbrev pub two_records : Scalar → Element → List ℕ → List ℕ → List WireRecord
two_records key element k v = record_with 1 (elements.Scalar key) k ∷ record_with 2 element v ∷ []

abbrev pub entry_body : Scalar → Element → List ℕ → List ℕ → List ℕ
entry_body key element k v = (record_with 1 (elements.Scalar key) k).bytes ++ (record_with 2 element v).bytes

-- An entry's body is read as its two records, and these as its key and value.
abbrev pub EntryBodiesRead : Type 0
EntryBodiesRead =
    (key : Scalar) (e : Element) (k v : List ℕ × Leaf) → IsReadAs (form (elements.Scalar key)) k.0 k.1 → IsReadAs (form e) v.0 v.1 → IsNestedLeaf e v.1 →
    length (entry_body key e k.0 v.0) < 2 ^ 64 →
    (records_of (entry_body key e k.0 v.0) ≡ Ok (two_records key e k.0 v.0))
    × ((number : ℕ) → entry_in key e (written number Len (entry_body key e k.0 v.0)) ≡ Some (k.1, v.1))
