use Rattle.std.proofs.Common.{◌≡◌, take}
use Rattle.pg_least.specs.inner.Graphs.{lines}
use Rattle.pg_least.proofs.least_bounds.table_of.Given as goal

abbrev pub invariant-loop-at : goal.invariant-loop-at
invariant-loop-at l = l.bounds.items ≡ lines (take l.at l.pairs) (take l.at l.costs)
