use Rattle.std.proofs.Common.{◌≡◌, drop}
use Rattle.pg_check.specs.inner.Faults.{first_fault}
use Rattle.pg_check.specs.inner.PartFaults.{message_fault}
use Rattle.pg_check.proofs.admitting.part_faults.messages_fault.Given as goal

abbrev pub invariant-loop-one : goal.invariant-loop-one
invariant-loop-one l = first_fault message_fault (drop l.one-index l.types) ≡ first_fault message_fault l.types
