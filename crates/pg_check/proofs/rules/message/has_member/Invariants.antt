use Rattle.std.proofs.Common.{◌≡◌, drop}
use Rattle.pg_check.specs.rules.Messages.{has_member}
use Rattle.pg_check.proofs.rules.message.has_member.Given as goal

abbrev pub invariant-loop-part : goal.invariant-loop-part
invariant-loop-part l = has_member (drop l.part-index l.body) ≡ has_member l.body
