-- The rows of a schema that is written down.
use Rattle.std.specs.Prelude.{ℕ, ℤ, List, map}
use denote.Ref.{Bor}
use Rattle.pg_schema.specs.declared.parts.field.Element.{Element}
use Rattle.pg_schema.specs.declared.parts.field.EnumId.{EnumId}
use Rattle.pg_schema.specs.declared.parts.field.Presence.{Presence}
use Rattle.pg_schema.specs.declared.parts.field.TypeId.{TypeId}
use Rattle.pg_set.specs.descriptor.DescriptorParts.{enum_of, field_of, type_of, value_of}
use Rattle.pg_set.specs.stated.Views.{EnumView, FieldView, TypeView, ValueView}

-- number, name, presence and element of a field
abbrev pub FieldRow : Type 0
FieldRow = ℕ × Bor (List ℕ) × Presence × Element

abbrev pub field_in : FieldRow → FieldView
field_in row = field_of row.0 row.1.now row.2 row.3

-- a message type's full name, its fields, and the message types and enums that are declared in it
abbrev pub TypeRow : Type 0
TypeRow = Bor (List ℕ) × Bor (List FieldRow) × Bor (List TypeId) × Bor (List EnumId)

abbrev pub type_in : TypeRow → TypeView
type_in row = type_of row.0.now (map field_in row.1.now) row.2.now row.3.now

-- number and name of an enum's value
abbrev pub ValueRow : Type 0
ValueRow = ℤ × Bor (List ℕ)

abbrev pub value_in : ValueRow → ValueView
value_in row = value_of row.0 row.1.now

-- an enum's full name, and its values
abbrev pub EnumRow : Type 0
EnumRow = Bor (List ℕ) × Bor (List ValueRow)

abbrev pub enum_in : EnumRow → EnumView
enum_in row = enum_of row.0.now (map value_in row.1.now)
