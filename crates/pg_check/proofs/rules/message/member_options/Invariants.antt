use Rattle.std.proofs.Common.{◌≡◌, map, drop}
use Rattle.pg_check.specs.inner.Faults.{first_fault}
use Rattle.pg_check.specs.inner.CodeViews.{member}
use Rattle.pg_check.specs.inner.MessageFaults.{member_option}
use Rattle.pg_check.proofs.rules.message.member_options.Given as goal

abbrev pub invariant-loop-one : goal.invariant-loop-one
invariant-loop-one l = first_fault member_option (map member (drop l.one-index l.list)) ≡ first_fault member_option (map member l.list)
