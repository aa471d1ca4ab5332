use Rattle.std.proofs.Common.{◌≡◌, map, take}
use Rattle.pg_check.specs.parts.MadeNumbers.{field_range}
use Rattle.pg_check.proofs.parts.made_number.field_ranges.Given as goal

abbrev pub invariant-loop-item : goal.invariant-loop-item
invariant-loop-item l = l.ranges.items ≡ map field_range (take l.item-index l.items)
