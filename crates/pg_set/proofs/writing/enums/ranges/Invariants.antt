use Rattle.std.proofs.Common.{◌≡◌, map, take}
use Rattle.pg_set.specs.declared.descriptor.places.TheConstants.{VALUE_RANGE}
use Rattle.pg_set.specs.inner.writing.Drafts.{listed}
use Rattle.pg_set.specs.writing.Messages.{value_range}
use Rattle.pg_set.proofs.writing.enums.ranges.Given as goal

abbrev pub invariant-loop-range : goal.invariant-loop-range
invariant-loop-range l = l.made ≡ listed VALUE_RANGE (map value_range (take l.range-index l.ranges))
