use Rattle.std.proofs.Common.{◌≡◌, map, take}
use Rattle.pg_set.specs.inner.writing.Drafts.{listed}
use Rattle.pg_set.specs.declared.descriptor.places.TheConstants.{FIELD_RANGE}
use Rattle.pg_set.specs.writing.Messages.{field_range}
use Rattle.pg_set.proofs.writing.messages.ranges.Given as goal

abbrev pub invariant-loop-range : goal.invariant-loop-range
invariant-loop-range l = l.made ≡ listed FIELD_RANGE (map field_range (take l.range-index l.ranges))
