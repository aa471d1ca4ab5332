use Rattle.std.proofs.Common.{◌≡◌, ◌++◌, map, take}
use Rattle.pg_check.specs.inner.CodeViews.{member}
use Rattle.pg_check.specs.rules.Members.{oneof_members}
use Rattle.pg_check.proofs.rules.member.push_oneof.Given as goal

abbrev pub invariant-loop-part : goal.invariant-loop-part
invariant-loop-part l = map member l.members.items ≡ map member l.fn.members.items ++ oneof_members l.place (take l.part-index l.body)
