use Rattle.std.proofs.Common.{◌≡◌, map, take}
use Rattle.pg_check.specs.inner.NameFaults.{called}
use Rattle.pg_check.specs.inner.CodeViews.{member}
use Rattle.pg_check.specs.rules.Members.{named}
use Rattle.pg_check.proofs.rules.member.names_of.Given as goal

abbrev pub invariant-loop-member : goal.invariant-loop-member
invariant-loop-member l = map called l.list.items ≡ map named (map member (take l.member-index l.members))
