use Rattle.std.proofs.Common.{◌≡◌, drop}
use Rattle.pg_check.specs.inner.Faults.{first_fault}
use Rattle.pg_check.specs.inner.MessageFaults.{oneof_fault}
use Rattle.pg_check.specs.rules.Messages.{oneofs}
use Rattle.pg_check.proofs.rules.message.oneofs_fault.Given as goal

abbrev pub invariant-loop-part : goal.invariant-loop-part
invariant-loop-part l = first_fault oneof_fault (oneofs (drop l.part-index l.body)) ≡ first_fault oneof_fault (oneofs l.body)
