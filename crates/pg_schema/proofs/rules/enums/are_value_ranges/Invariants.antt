use Rattle.std.proofs.Common.{◌≡◌, true, take}
use Rattle.std.specs.List.{list_all}
use Rattle.pg_schema.specs.rules.Uses.{is_value_range}
use Rattle.pg_schema.proofs.rules.enums.are_value_ranges.Given as goal

abbrev pub invariant-loop-range : goal.invariant-loop-range
invariant-loop-range l = list_all (is_value_range) (take l.range-index l.ranges) ≡ true
