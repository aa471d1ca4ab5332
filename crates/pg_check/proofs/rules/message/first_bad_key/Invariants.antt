use Rattle.std.proofs.Common.{◌≡◌, map, drop}
use Rattle.pg_check.specs.inner.CodeViews.{member}
use Rattle.pg_check.specs.inner.MessageFaults.{first_member}
use Rattle.pg_check.specs.rules.Messages.{has_bad_key}
use Rattle.pg_check.proofs.rules.message.first_bad_key.Given as goal

abbrev pub invariant-loop-one : goal.invariant-loop-one
invariant-loop-one l = first_member has_bad_key (map member (drop l.one-index l.list)) ≡ first_member has_bad_key (map member l.list)
