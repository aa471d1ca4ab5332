use Rattle.std.proofs.Common.{◌≡◌, drop}
use Rattle.pg_check.specs.inner.MessageFaults.{first_bad_number}
use Rattle.pg_check.proofs.rules.message.first_bad_number.Given as goal

abbrev pub invariant-loop-one : goal.invariant-loop-one
invariant-loop-one l = first_bad_number (drop l.one-index l.keys) ≡ first_bad_number l.keys
