-- What is made of a message type's fields and oneofs.
use Rattle.std.specs.Prelude.{◌≡◌, map, Some}
use Rattle.std.specs.String.{string_bytes}
use Rattle.pg_set.specs.declared.reading.made_types.Members.{Members}
use Rattle.pg_set.specs.inner.Declarations.{NameTable}
use Rattle.pg_set.specs.stated.Outlines.{Row}
use Rattle.pg_set.specs.inner.reading.Owners.{means_of}
use Rattle.pg_set.specs.stated.StatedTypes.{declared_fields, oneof_names}
use Rattle.pg_set.specs.stated.Views.{field_view}

-- those that the message of that name states
pub record HasMembers {Y : Type 0} (names : NameTable Y) (r : Row) (made : Members) : Type 0 where
  pub fields : declared_fields (means_of names) r ≡ Some (map field_view made.fields.items)
  pub oneofs : map string_bytes made.oneofs.items ≡ oneof_names r.1
