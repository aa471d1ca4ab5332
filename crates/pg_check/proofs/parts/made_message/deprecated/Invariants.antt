use Rattle.std.proofs.Common.{◌≡◌, drop}
use Rattle.pg_check.specs.parts.MadeMessages.{deprecated}
use Rattle.pg_check.proofs.parts.made_message.deprecated.Given as goal

abbrev pub invariant-loop-part : goal.invariant-loop-part
invariant-loop-part l = deprecated (drop l.part-index l.body) ≡ deprecated l.body
