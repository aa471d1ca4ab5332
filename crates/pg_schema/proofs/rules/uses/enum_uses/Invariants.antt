use Rattle.std.proofs.Common.{◌≡◌, ◌++◌, take, map}
use Rattle.pg_schema.specs.rules.Uses.{value_use, reserved_values_use}
use Rattle.pg_schema.proofs.rules.uses.enum_uses.Given as goal

abbrev pub invariant-loop-range : goal.invariant-loop-range
invariant-loop-range l = l.uses.items ≡ map value_use l.values ++ map reserved_values_use (take l.range-index l.reserved)
