use Rattle.std.proofs.Common.{◌≡◌, map, take}
use Rattle.pg_check.specs.inner.NameFaults.{called}
use Rattle.pg_check.specs.rules.Enums.{value_names}
use Rattle.pg_check.proofs.rules.enumeration.value_names.Given as goal

abbrev pub invariant-loop-part : goal.invariant-loop-part
invariant-loop-part l = map called l.names.items ≡ value_names (take l.part-index l.body)
