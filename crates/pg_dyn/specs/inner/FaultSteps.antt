-- What is known of records in which no fault is found.
use Rattle.std.specs.Prelude.{◌≡◌, ℕ, true, false, List, None, Ok, is_some}
use Rattle.pg_schema.specs.declared.parts.field.Element.{Element}
use Rattle.pg_schema.specs.declared.parts.field.Presence.TheVariants as presences
use Rattle.pg_schema.specs.Shape.{Shape, FieldShape, fields, is_map}
use Rattle.pg_wire.specs.Records.{WireRecord, records_of}
use Rattle.pg_dyn.specs.declared.reading.faults.Holder.{Holder}
use Rattle.pg_dyn.specs.declared.reading.faults.Holder.TheVariants as holders
use Rattle.pg_dyn.specs.reading.Content.{entry_fields}
use Rattle.pg_dyn.specs.reading.Decoding.{all_readable, dec}
use Rattle.pg_dyn.specs.reading.Steps.{FieldReads}

-- A record of an element's own wire type has a reading, whichever field that is no map has the element.
abbrev pub ItemReads : Shape → Element → WireRecord → Type 0
ItemReads shape element r = (f : FieldShape) → is_map f.presence ≡ false → f.element ≡ element → FieldReads shape f r

-- the fields of what holds records, and of an entry's part with a number
abbrev pub held_fields : Shape → Holder → List FieldShape
held_fields shape (holders.Message t) = fields shape t
held_fields shape (holders.Entry key element) = entry_fields key element

abbrev pub part_field : ℕ → Element → FieldShape
part_field number element = record { number = number; presence = presences.Explicit; element = element; oneof = None }

-- the bytes are a message that has a reading, or an entry whose records have
abbrev pub HolderReads : Shape → Holder → List ℕ → Type 0
HolderReads shape (holders.Message t) bytes = is_some (dec shape t bytes) ≡ true
HolderReads shape (holders.Entry key element) bytes =
    (rs : List WireRecord) × (records_of bytes ≡ Ok rs)
    × (all_readable (dec shape) (entry_fields key element) rs ≡ true)
