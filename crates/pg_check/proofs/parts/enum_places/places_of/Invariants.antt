use Rattle.std.proofs.Common.{length}
use Rattle.pg_check.proofs.lemmas.parts.places.EnumPlaces.{HavePlaces}
use Rattle.pg_check.proofs.parts.enum_places.places_of.Given as goal

abbrev pub invariant-names : goal.invariant-names
invariant-names l = HavePlaces l.fn.names.items l.names.items l.places

abbrev pub decreases-names : goal.decreases-names
decreases-names l = length l.names.items
