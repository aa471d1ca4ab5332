use Rattle.std.proofs.Common.{take}
use Rattle.pg_check.specs.inner.PartFaults.{IsPlaceSet}
use Rattle.pg_check.proofs.admitting.oneof_members.places_of.Given as goal

abbrev pub invariant-loop-field : goal.invariant-loop-field
invariant-loop-field l = IsPlaceSet (take l.field-index l.fields) l.places
