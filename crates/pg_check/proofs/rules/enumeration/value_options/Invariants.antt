use Rattle.std.proofs.Common.{◌≡◌, drop}
use Rattle.pg_check.specs.inner.Faults.{first_fault}
use Rattle.pg_check.specs.inner.EnumFaults.{part_option}
use Rattle.pg_check.proofs.rules.enumeration.value_options.Given as goal

abbrev pub invariant-loop-part : goal.invariant-loop-part
invariant-loop-part l = first_fault part_option (drop l.part-index l.body) ≡ first_fault part_option l.body
