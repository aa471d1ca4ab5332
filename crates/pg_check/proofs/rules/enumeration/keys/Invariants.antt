use Rattle.std.proofs.Common.{◌≡◌, take}
use Rattle.pg_check.specs.rules.Enums.{keys}
use Rattle.pg_check.proofs.rules.enumeration.keys.Given as goal

abbrev pub invariant-loop-part : goal.invariant-loop-part
invariant-loop-part l = l.keys.items ≡ keys (take l.part-index l.body)
