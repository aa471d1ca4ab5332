use Rattle.std.proofs.Common.{◌≡◌, drop}
use Rattle.pg_check.specs.inner.Faults.{first_fault}
use Rattle.pg_check.specs.inner.MessageFaults.{oneof_option}
use Rattle.pg_check.proofs.rules.message.oneof_option.Given as goal

abbrev pub invariant-loop-part : goal.invariant-loop-part
invariant-loop-part l = first_fault oneof_option (drop l.part-index l.body) ≡ first_fault oneof_option l.body
