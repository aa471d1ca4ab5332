use Rattle.std.proofs.Common.{◌≡◌, ◌++◌, take, map}
use Rattle.pg_schema.specs.rules.Uses.{field_use, reserved_use}
use Rattle.pg_schema.proofs.rules.uses.message_uses.Given as goal

abbrev pub invariant-loop-range : goal.invariant-loop-range
invariant-loop-range l = l.uses.items ≡ map field_use l.fields ++ map reserved_use (take l.range-index l.reserved)
