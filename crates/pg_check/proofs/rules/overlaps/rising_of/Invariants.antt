use Rattle.std.proofs.Common.{◌≡◌, take}
use Rattle.std.specs.List.{filter}
use Rattle.pg_check.specs.rules.KeepsRules.{rises}
use Rattle.pg_check.proofs.rules.overlaps.rising_of.Given as goal

abbrev pub invariant-loop-item : goal.invariant-loop-item
invariant-loop-item l = l.rising.items ≡ filter rises (take l.item-index l.items)
