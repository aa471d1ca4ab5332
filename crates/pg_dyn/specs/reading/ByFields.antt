-- What records say that are read field by field (Encoding guide, "Message Structure", "Last One Wins", "Packed Repeated Fields",
-- "Maps"), and why reading stops.
use Rattle.std.specs.Prelude.{◌≡◌, ⊤, ℕ, List, map, filter, flat_map, true, Option, Some, option_and_then, is_some}
use Rattle.std.specs.List.{AllByRecursion}
use Rattle.pg_schema.specs.declared.parts.field.TypeId.{TypeId}
use Rattle.pg_schema.specs.declared.parts.field.Scalar.{Scalar}
use Rattle.pg_schema.specs.declared.parts.field.Element.{Element}
use Rattle.pg_schema.specs.Shape.{Shape, FieldShape, fields, field_at}
use Rattle.pg_wire.specs.Records.{WireRecord, IsRecord}
use Rattle.pg_dyn.specs.declared.message_ref.EntryRef.{EntryRef}
use Rattle.pg_dyn.specs.declared.message_ref.ContentRef.{ContentRef}
use Rattle.pg_dyn.specs.declared.message_ref.ValueRef.{ValueRef}
use Rattle.pg_dyn.specs.declared.message_ref.ValueRef.TheVariants as values
use Rattle.pg_dyn.specs.declared.reading.stop.Stop.{Stop}
use Rattle.pg_dyn.specs.declared.reading.stop.Stop.TheVariants as stops
use Rattle.pg_dyn.specs.reading.Optional.{all_some}
use Rattle.pg_dyn.specs.message.Message.{Leaf}
use Rattle.pg_dyn.specs.reading.Content.{content, counted, entry_in, takes}
use Rattle.pg_dyn.specs.message_ref.BorrowedItems.{ItemKept}
use Rattle.pg_dyn.specs.reading.Decoding.{all_readable, dec, read_part}
use Rattle.pg_dyn.specs.reading.EntrySteps.{IsReadFrom}
use Rattle.pg_dyn.specs.message.Kept.{message_of}
use Rattle.pg_dyn.specs.message_ref.BorrowedItems.{IsItemKept}
use Rattle.pg_dyn.specs.message_ref.Borrowed.{leaf_of}
use Rattle.pg_dyn.specs.reading.Steps.{FieldReads, IsShallow, IsShallowIn, IsShallowRecord, Taken, part_of, parts_held}

-- why reading stops of what should be so: memory was refused, or it isn't so
abbrev pub StopsFor : Type 0 → Stop → Type 0
StopsFor Good stops.Memory = ⊤
StopsFor Good stops.Fault = Good → ⊥

-- what the field holds after these records, which it accepts and which all count
abbrev pub HoldsOf : Shape → FieldShape → List WireRecord → Option ContentRef → Type 0
HoldsOf shape f rs held =
    option_and_then (λ ps. all_some (map (read_part (dec shape) f.element) ps)) (content f rs) ≡ Some (map part_of (parts_held f.number held))

-- each record that the field accepts has a reading, and holds no message that is too deep
abbrev pub AreGood : Shape → ℕ → FieldShape → List WireRecord → Type 0
AreGood shape levels f rs = AllByRecursion (λ r. FieldReads shape f r × IsShallow shape levels f r) rs

-- each record is one, and the field accepts it
abbrev pub AreOf : FieldShape → List WireRecord → Type 0
AreOf f rs = AllByRecursion (λ r. IsRecord r × (takes f r ≡ true)) rs

-- the value is the message that the records' bodies are read as, one after the other
abbrev pub IsChildOf : Shape → TypeId → List WireRecord → ValueRef → Type 0
IsChildOf shape type rs (values.Msg child) = dec shape type (flat_map (λ (r : WireRecord). r.body) rs) ≡ Some (message_of child.value)
IsChildOf shape type rs value = ⊥

-- each body is read as a message, and none in it, nor itself, is too deep
abbrev pub BodiesGood : Shape → ℕ → TypeId → List WireRecord → Type 0
BodiesGood shape levels type rs =
    (levels ≡ 0 → ⊥) × AllByRecursion (λ (r : WireRecord). (is_some (dec shape type r.body) ≡ true) × IsShallowIn shape levels (fields shape type) r.body) rs

-- the key and the value of the entry that the record holds
abbrev pub IsEntryRead : Shape → Scalar → Element → WireRecord → EntryRef → Type 0
IsEntryRead shape key element r e =
    (leaf : Leaf) × (entry_in key element r ≡ Some (leaf_of e.key, leaf)) × IsReadFrom shape element leaf e.value × IsItemKept key e.key × ItemKept shape element e.value

-- each record that a field accepts has a reading, and holds no message that is too deep
abbrev pub RecordsGood : Shape → ℕ → List FieldShape → List WireRecord → Type 0
RecordsGood shape levels fs rs = (all_readable (dec shape) fs rs ≡ true) × AllByRecursion (IsShallowRecord shape levels fs) rs

-- Records of which all count: each is accepted by a field, and none of another member of that field's oneof is among them.
pub record AllCount (fs : List FieldShape) (rs : List WireRecord) : Type 0 where
  pub are_records : AllByRecursion IsRecord rs
  pub known : AllByRecursion (λ r. (f : FieldShape) × Taken fs r f) rs
  pub count : (f : FieldShape) → field_at fs f.number ≡ Some f → counted fs f rs ≡ filter (takes f) rs
