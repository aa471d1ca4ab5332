use Rattle.std.proofs.Common.{◌≡◌, take}
use Rattle.pg_set.specs.declared.descriptor.places.TheConstants.{SERVICE}
use Rattle.pg_set.specs.inner.writing.Drafts.{listed}
use Rattle.pg_set.specs.writing.Places.{declared_in}
use Rattle.pg_set.specs.writing.Set.{services_items}
use Rattle.pg_set.proofs.writing.services.services.Given as goal

abbrev pub invariant-loop-id : goal.invariant-loop-id
invariant-loop-id l = l.made ≡ listed SERVICE (services_items (declared_in l.writer) (take l.id-index l.ids))
