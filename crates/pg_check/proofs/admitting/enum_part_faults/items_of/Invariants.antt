use Rattle.std.proofs.Common.{◌≡◌, map, take}
use Rattle.pg_check.specs.admitting.DeclaredParts.{value_item}
use Rattle.pg_check.proofs.admitting.enum_part_faults.items_of.Given as goal

abbrev pub invariant-loop-range : goal.invariant-loop-range
invariant-loop-range l = l.items.items ≡ map value_item (take l.range-index l.ranges)
