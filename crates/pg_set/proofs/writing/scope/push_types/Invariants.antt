use Rattle.std.proofs.Common.{◌≡◌, ◌++◌, take, map, slice_get}
use Rattle.std.specs.List.{flat_map}
use Rattle.std.specs.String.{string_bytes}
use Rattle.pg_schema.specs.declared.parts.field.TypeId.{TypeId}
use Rattle.pg_set.specs.writing.Messages.{own_type_name, where_found}
use Rattle.pg_set.proofs.writing.scope.push_types.Given as goal

abbrev pub invariant-loop-id : goal.invariant-loop-id
invariant-loop-id l = map string_bytes l.names.items ≡ map string_bytes l.fn.names.items ++ flat_map (λ (id : TypeId). where_found own_type_name (slice_get l.source.types.items id.index)) (take l.id-index l.ids)
