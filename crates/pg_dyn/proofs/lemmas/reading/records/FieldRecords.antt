-- Records of a field that is no map, by their wire types.
use Rattle.std.proofs.Common.{◌≡◌, List, [], ◌∷◌, true, false, Some, ℕ, rules, arith}
use Rattle.std.proofs.lemmas.Bool.{and_parts}
use Rattle.std.proofs.Math.Bool.{and-false, or-false}
use Rattle.pg_schema.specs.Shape.{Shape, FieldShape, is_map, is_repeated, is_packable}
use Rattle.pg_wire.specs.Records.{WireRecord, IsBody}
use Rattle.pg_dyn.specs.word.Coding.{form, form_wire, leaf_in, HasShape}
use Rattle.pg_dyn.specs.reading.Content.{same_wire, takes, leaves_in, packed_leaves}
use Rattle.pg_dyn.specs.message.Message.{Leaf}
use Rattle.pg_dyn.specs.reading.ReadingOn.{IsNoMessage}
use Rattle.pg_dyn.specs.reading.Steps.{FieldReads}
use Rattle.pg_dyn.proofs.lemmas.reading.by_fields.PlainFields.{own_is, readable_is, no_child}
use Rattle.pg_wire.specs.declared.record.WireType.{WireType}

-- What a record of the wire type holds.

pub shape_of_body : (w v : WireType) (before body : List ℕ) → same_wire w v ≡ true → IsBody w before body → HasShape v body
shape_of_body w v before body h is = grind arith

-- Which wire type a record has, and its leaves.

pub singular_wire : (f : FieldShape) (r : WireRecord) → takes f r ≡ true → is_map f.presence ≡ false → is_repeated f.presence ≡ false
    → same_wire r.wire (form_wire (form f.element)) ≡ true
singular_wire f r taken no_map singular = search (rules, and_parts, and-false, or-false, own_is)

pub own_leaves : (f : FieldShape) (r : WireRecord) (leaf : Leaf) → same_wire r.wire (form_wire (form f.element)) ≡ true
    → leaf_in (form f.element) r.body ≡ Some leaf → leaves_in f r ≡ Some (leaf ∷ [])
own_leaves f r leaf own read = rw (own, read)

pub row_leaves : (f : FieldShape) (r : WireRecord) → same_wire r.wire (form_wire (form f.element)) ≡ false
    → leaves_in f r ≡ packed_leaves (form f.element) r.body
row_leaves f r other = rw other

-- Readable records.

pub reads_scalar : (shape : Shape) (f : FieldShape) (r : WireRecord) (leaves : List Leaf) → is_map f.presence ≡ false → IsNoMessage f.element
    → leaves_in f r ≡ Some leaves → FieldReads shape f r
reads_scalar shape f r leaves no_map scalar read = search (rules, readable_is, no_child)

-- Packed lists.

-- a record of another wire type is taken where a packed list can be
pub packable_of : (f : FieldShape) (r : WireRecord) → takes f r ≡ true → is_map f.presence ≡ false → same_wire r.wire (form_wire (form f.element)) ≡ false
    → is_packable f.element ≡ true
packable_of f r taken no_map other = search (rules, and_parts, own_is)
