use Rattle.std.proofs.Common.{◌≡◌, map, take}
use Rattle.pg_set.specs.declared.descriptor.places.TheConstants.{METHOD}
use Rattle.pg_set.specs.inner.writing.Drafts.{listed}
use Rattle.pg_set.specs.writing.Places.{declared_in}
use Rattle.pg_set.specs.writing.Set.{method_items}
use Rattle.pg_set.proofs.writing.services.methods.Given as goal

abbrev pub invariant-loop-method : goal.invariant-loop-method
invariant-loop-method l = l.made ≡ listed METHOD (map (method_items (declared_in l.writer)) (take l.method-index l.methods))
