-- The message type at an index in a schema's parts, and a field of it by its number.
use Rattle.std.specs.Prelude.{ℕ, find, nat_eq, slice_get, Option, option_and_then}
use Rattle.pg_schema.specs.declared.parts.field.Field.{Field}
use Rattle.pg_schema.specs.declared.parts.field.TypeId.{TypeId}
use Rattle.pg_schema.specs.declared.parts.message_type.MessageType.{MessageType}
use Rattle.pg_schema.specs.declared.parts.Parts.{Parts}

abbrev pub type_at : Parts → TypeId → Option MessageType
type_at parts id = slice_get parts.types.items id.index

-- the field of the type that has the number
abbrev pub field_of : Parts → TypeId → ℕ → Option Field
field_of parts id number = option_and_then (λ t. find (λ f. nat_eq f.number number) t.fields.items) (type_at parts id)
