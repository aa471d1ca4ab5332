use Rattle.pg_least.specs.inner.Places.{ArePlaces}
use Rattle.pg_least.proofs.arcs.places_of.Given as goal

abbrev pub invariant-loop-at : goal.invariant-loop-at
invariant-loop-at l = ArePlaces l.pairs l.at l.places
