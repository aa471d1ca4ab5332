use Rattle.std.proofs.Common.{◌≡◌, map, take}
use Rattle.pg_check.specs.rules.Members.{key_of}
use Rattle.pg_check.specs.inner.CodeViews.{member}
use Rattle.pg_check.proofs.rules.member.keys.Given as goal

abbrev pub invariant-loop-member : goal.invariant-loop-member
invariant-loop-member l = l.keys.items ≡ map key_of (map member (take l.member-index l.members))
