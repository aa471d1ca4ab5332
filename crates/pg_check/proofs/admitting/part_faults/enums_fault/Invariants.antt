use Rattle.std.proofs.Common.{◌≡◌, drop}
use Rattle.pg_check.specs.inner.Faults.{first_fault}
use Rattle.pg_check.specs.inner.PartFaults.{enum_fault}
use Rattle.pg_check.proofs.admitting.part_faults.enums_fault.Given as goal

abbrev pub invariant-loop-one : goal.invariant-loop-one
invariant-loop-one l = first_fault enum_fault (drop l.one-index l.enums) ≡ first_fault enum_fault l.enums
