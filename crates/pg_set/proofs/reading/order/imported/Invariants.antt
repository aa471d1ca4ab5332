use Rattle.std.proofs.Common.{ℕ, List, take}
use Rattle.pg_set.specs.inner.Lent.{lent}
use Rattle.pg_set.specs.inner.reading.FilePlaces.{IsIndex, StandAt}
use Rattle.pg_set.proofs.reading.order.imported.Given as goal

abbrev pub invariant-loop-path : goal.invariant-loop-path
invariant-loop-path l = (all : List (List ℕ)) → IsIndex all l.places → StandAt all l.imported.items (lent (take l.path-index l.paths))
