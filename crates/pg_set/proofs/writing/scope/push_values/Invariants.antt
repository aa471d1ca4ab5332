use Rattle.std.proofs.Common.{◌≡◌, ◌++◌, take, map}
use Rattle.std.specs.String.{string_bytes}
use Rattle.pg_schema.specs.rules.Enums.{value_names}
use Rattle.pg_set.proofs.writing.scope.push_values.Given as goal

abbrev pub invariant-loop-value : goal.invariant-loop-value
invariant-loop-value l = map string_bytes l.names.items ≡ map string_bytes l.fn.names.items ++ value_names (take l.value-index l.values)
