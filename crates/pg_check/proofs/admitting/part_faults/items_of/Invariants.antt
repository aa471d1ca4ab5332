use Rattle.std.proofs.Common.{◌≡◌, map, take}
use Rattle.pg_check.specs.admitting.DeclaredParts.{item_of}
use Rattle.pg_check.proofs.admitting.part_faults.items_of.Given as goal

abbrev pub invariant-loop-range : goal.invariant-loop-range
invariant-loop-range l = l.items.items ≡ map item_of (take l.range-index l.ranges)
