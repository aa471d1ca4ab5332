use Rattle.std.proofs.Common.{◌≡◌, List, true}
use Rattle.pg_schema.specs.declared.parts.field.Field.{Field}
use Rattle.pg_schema.specs.rules.Messages.{have_members}
use Rattle.pg_check.specs.inner.PartFaults.{IsPlaceSet}
use Rattle.pg_check.proofs.admitting.oneof_members.are_all_among.Given as goal

abbrev pub invariant-loop-place : goal.invariant-loop-place
invariant-loop-place l = (fields : List Field) → IsPlaceSet fields l.places → have_members l.place-counter fields ≡ true
