-- Numbers that an int32 holds.
use Rattle.std.specs.Prelude.{◌^◌, length, ◌<◌, IfSome, ◌+◌}
use Rattle.std.specs.List.{AllByRecursion}
use Rattle.pg_schema.specs.declared.parts.field.Field.{Field}
use Rattle.pg_schema.specs.declared.parts.message_type.ReservedFields.{ReservedFields}
use Rattle.pg_schema.specs.declared.parts.message_type.MessageType.{MessageType}

-- the field's own, and the index of its oneof
pub record HasSmallNumbers (f : Field) : Type 0 where
  pub number : f.number < 2 ^ 31
  pub oneof : IfSome f.oneof (λ place. place < 2 ^ 31)

pub record IsSmallRange (r : ReservedFields) : Type 0 where
  pub first : r.first < 2 ^ 31
  pub end : r.last + 1 < 2 ^ 31

-- those of its fields and reserved ranges, and the indices of its oneofs, real and synthetic
pub record IsSmallType (t : MessageType) : Type 0 where
  pub fields : AllByRecursion HasSmallNumbers t.fields.items
  pub ranges : AllByRecursion IsSmallRange t.reserved_numbers.items
  pub places : length t.oneofs.items + length t.declared.items < 2 ^ 31
