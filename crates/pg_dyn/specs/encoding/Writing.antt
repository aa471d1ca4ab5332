-- The records that a writer makes of a field's content (Encoding guide, "Packed Repeated Fields", "Maps"). Child messages are
-- still their bytes here. Shortest varints, one record for a packed list, and entries with key and value always are this
-- profile's choices.
use Rattle.std.specs.Prelude.{ℕ, List, [], ◌∷◌, ◌++◌, map, filter, flat_map, Bool, true, false, unwrap_or}
use Rattle.pg_schema.specs.declared.parts.field.Scalar.{Scalar}
use Rattle.pg_schema.specs.declared.parts.field.Element.{Element}
use Rattle.pg_schema.specs.declared.parts.field.Element.TheVariants as elements
use Rattle.pg_schema.specs.declared.parts.field.Presence.{Presence}
use Rattle.pg_schema.specs.declared.parts.field.Presence.TheVariants as presences
use Rattle.pg_schema.specs.Shape.{FieldShape}
use Rattle.pg_wire.specs.declared.record.WireType.TheVariants.{Len}
use Rattle.pg_wire.specs.Records.{WireRecord, written}
use Rattle.pg_dyn.specs.message.Message.{Leaf, Part, is_of}
use Rattle.pg_dyn.specs.word.Coding.{form, form_wire, body, zero_leaf}

-- whether the items of a field are in one record
abbrev pub is_packed : Presence → Bool
is_packed presences.Implicit = false
is_packed presences.Explicit = false
is_packed (presences.Repeated packed) = packed
is_packed (presences.Map key) = false

-- one record for one item
abbrev pub item_record : ℕ → Element → Leaf → WireRecord
item_record number element leaf = written number (form_wire (form element)) (body (form element) leaf)

-- an entry's key and value, always both
abbrev pub entry_bytes : Scalar → Element → Leaf → Leaf → List ℕ
entry_bytes key element k v = (item_record 1 (elements.Scalar key) k).bytes ++ (item_record 2 element v).bytes

abbrev pub key_of : {A : Type 0} → Scalar → Part A → Leaf
key_of key part = unwrap_or part.key (zero_leaf (form (elements.Scalar key)))

-- a packed list is one record, where it isn't empty
abbrev pub packed_record : ℕ → Element → List (Part Leaf) → List WireRecord
packed_record number element [] = []
packed_record number element (p ∷ ps) = written number Len (flat_map (λ (q : Part Leaf). body (form element) q.item) (p ∷ ps)) ∷ []

-- the records of a field with that content
abbrev pub field_records : FieldShape → List (Part Leaf) → List WireRecord
field_records f ps = of f.presence
  where
    each : List WireRecord
    each = map (λ (p : Part Leaf). item_record f.number f.element p.item) ps

    of : Presence → List WireRecord
    of presences.Implicit = each
    of presences.Explicit = each
    of (presences.Repeated true) = packed_record f.number f.element ps
    of (presences.Repeated false) = each
    of (presences.Map key) = map (λ (p : Part Leaf). written f.number Len (entry_bytes key f.element (key_of key p) p.item)) ps

-- the records of all fields, by rising number
abbrev pub records_in : List FieldShape → List (Part Leaf) → List WireRecord
records_in fs ps = flat_map (λ (f : FieldShape). field_records f (filter (is_of f.number) ps)) fs

abbrev pub bytes_of : List WireRecord → List ℕ
bytes_of rs = flat_map (λ (r : WireRecord). r.bytes) rs
