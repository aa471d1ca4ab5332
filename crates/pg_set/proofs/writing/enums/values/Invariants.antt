use Rattle.std.proofs.Common.{◌≡◌, map, take}
use Rattle.pg_set.specs.declared.descriptor.places.TheConstants.{VALUE}
use Rattle.pg_set.specs.inner.writing.Drafts.{listed}
use Rattle.pg_set.specs.writing.Messages.{value_items}
use Rattle.pg_set.proofs.writing.enums.values.Given as goal

abbrev pub invariant-loop-value : goal.invariant-loop-value
invariant-loop-value l = l.made ≡ listed VALUE (map value_items (take l.value-index l.values))
