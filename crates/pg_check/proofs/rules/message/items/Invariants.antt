use Rattle.std.proofs.Common.{◌≡◌, take}
use Rattle.pg_check.specs.rules.Messages.{items}
use Rattle.pg_check.proofs.rules.message.items.Given as goal

abbrev pub invariant-loop-part : goal.invariant-loop-part
invariant-loop-part l = l.items.items ≡ items (take l.part-index l.body)
