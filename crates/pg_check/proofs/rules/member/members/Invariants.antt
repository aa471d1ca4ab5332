use Rattle.std.proofs.Common.{◌≡◌, ◌++◌, ◌≤◌, map, drop}
use Rattle.pg_check.specs.inner.CodeViews.{member}
use Rattle.pg_check.specs.rules.Members.{members, members_from}
use Rattle.pg_check.proofs.rules.member.members.Given as goal

abbrev pub invariant-loop-part : goal.invariant-loop-part
invariant-loop-part l = record {
  few : l.oneofs ≤ l.part-index;
  left : map member l.members.items ++ members_from l.oneofs (drop l.part-index l.body) ≡ members l.body;
}
