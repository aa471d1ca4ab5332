use Rattle.std.proofs.Common.{◌≡◌, map, take}
use Rattle.pg_check.specs.inner.NameFaults.{titled}
use Rattle.pg_check.specs.rules.Members.{json_named}
use Rattle.pg_check.specs.inner.CodeViews.{member}
use Rattle.pg_check.proofs.rules.member.json_names.Given as goal

abbrev pub invariant-loop-member : goal.invariant-loop-member
invariant-loop-member l = map titled l.list.items ≡ map json_named (map member (take l.member-index l.members))
