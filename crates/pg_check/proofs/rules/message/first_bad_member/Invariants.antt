use Rattle.std.proofs.Common.{◌≡◌, map, drop}
use Rattle.pg_check.specs.inner.CodeViews.{member}
use Rattle.pg_check.specs.inner.MessageFaults.{first_member}
use Rattle.pg_check.specs.rules.Messages.{is_bad_member}
use Rattle.pg_check.proofs.rules.message.first_bad_member.Given as goal

abbrev pub invariant-loop-one : goal.invariant-loop-one
invariant-loop-one l = first_member is_bad_member (map member (drop l.one-index l.list)) ≡ first_member is_bad_member (map member l.list)
