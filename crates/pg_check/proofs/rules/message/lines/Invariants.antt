use Rattle.std.proofs.Common.{◌≡◌, map, take}
use Rattle.pg_check.specs.inner.OptionFaults.{stated}
use Rattle.pg_check.specs.rules.Messages.{lines}
use Rattle.pg_check.proofs.rules.message.lines.Given as goal

abbrev pub invariant-loop-part : goal.invariant-loop-part
invariant-loop-part l = map stated l.lines.items ≡ lines (take l.part-index l.body)
