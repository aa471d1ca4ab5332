use Rattle.std.proofs.Common.{◌≡◌, take}
use Rattle.pg_set.specs.declared.descriptor.places.TheConstants.{MESSAGE}
use Rattle.pg_set.specs.inner.writing.Drafts.{listed}
use Rattle.pg_set.specs.writing.Messages.{types_items}
use Rattle.pg_set.specs.writing.Places.{declared_in}
use Rattle.pg_set.proofs.writing.files.+types.Given as goal

abbrev pub decreases-types : goal.decreases-types
decreases-types l = l.depth

abbrev pub invariant-loop-id : goal.invariant-loop-id
invariant-loop-id l = l.made ≡ listed MESSAGE (types_items l.depth (declared_in l.writer) (take l.id-index l.ids))
