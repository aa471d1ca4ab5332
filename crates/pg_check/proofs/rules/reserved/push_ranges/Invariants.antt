use Rattle.std.proofs.Common.{◌≡◌, ◌++◌, map, take}
use Rattle.pg_check.specs.rules.ReservedItems.{numbers_of}
use Rattle.pg_check.proofs.rules.reserved.push_ranges.Given as goal

abbrev pub invariant-loop-range : goal.invariant-loop-range
invariant-loop-range l = l.numbers.items ≡ l.fn.numbers.items ++ map (numbers_of l.highest) (take l.range-index l.ranges)
