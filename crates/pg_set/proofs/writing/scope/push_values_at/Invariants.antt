use Rattle.std.proofs.Common.{◌≡◌, ◌++◌, take, map}
use Rattle.std.specs.String.{string_bytes}
use Rattle.pg_schema.specs.rules.DeclaredNames.{values_at}
use Rattle.pg_set.proofs.writing.scope.push_values_at.Given as goal

abbrev pub invariant-loop-id : goal.invariant-loop-id
invariant-loop-id l = map string_bytes l.names.items ≡ map string_bytes l.fn.names.items ++ values_at l.source.enums.items (take l.id-index l.ids)
