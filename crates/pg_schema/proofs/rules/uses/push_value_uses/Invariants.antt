use Rattle.std.proofs.Common.{◌≡◌, ◌++◌, take, map}
use Rattle.pg_schema.specs.rules.Uses.{value_use}
use Rattle.pg_schema.proofs.rules.uses.push_value_uses.Given as goal

abbrev pub invariant-loop-value : goal.invariant-loop-value
invariant-loop-value l = l.uses.items ≡ l.fn.uses.items ++ map value_use (take l.value-index l.values)
