use Rattle.std.proofs.Common.{◌≡◌, map, take}
use Rattle.pg_check.specs.parts.MadeNumbers.{value_range}
use Rattle.pg_check.proofs.parts.made_number.value_ranges.Given as goal

abbrev pub invariant-loop-item : goal.invariant-loop-item
invariant-loop-item l = l.ranges.items ≡ map value_range (take l.item-index l.items)
