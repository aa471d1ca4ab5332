use Rattle.std.proofs.Common.{◌≡◌, map, drop}
use Rattle.pg_check.specs.inner.Faults.{first_fault}
use Rattle.pg_check.specs.inner.CodeViews.{member}
use Rattle.pg_check.specs.inner.MessageFaults.{member_packed}
use Rattle.pg_check.proofs.rules.message.members_packed.Given as goal
use Rattle.pg_check.specs.inner.Sources.{target_in}

abbrev pub invariant-loop-one : goal.invariant-loop-one
invariant-loop-one l = first_fault (member_packed (target_in l.targets)) (map member (drop l.one-index l.list)) ≡ first_fault (member_packed (target_in l.targets)) (map member l.list)
