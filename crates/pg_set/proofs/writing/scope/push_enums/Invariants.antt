use Rattle.std.proofs.Common.{◌≡◌, ◌++◌, take, map, slice_get}
use Rattle.std.specs.List.{flat_map}
use Rattle.std.specs.String.{string_bytes}
use Rattle.pg_schema.specs.declared.parts.field.EnumId.{EnumId}
use Rattle.pg_set.specs.writing.Messages.{own_enum_name, where_found}
use Rattle.pg_set.proofs.writing.scope.push_enums.Given as goal

abbrev pub invariant-loop-id : goal.invariant-loop-id
invariant-loop-id l = map string_bytes l.names.items ≡ map string_bytes l.fn.names.items ++ flat_map (λ (id : EnumId). where_found own_enum_name (slice_get l.source.enums.items id.index)) (take l.id-index l.ids)
