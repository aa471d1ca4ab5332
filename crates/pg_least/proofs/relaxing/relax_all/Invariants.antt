use Rattle.std.proofs.Common.{◌≡◌, ◌++◌, take, List, Option, Bool, true, Some, ℕ}
use Rattle.std.specs.List.{AllByRecursion}
use Rattle.std.specs.BinaryHeap.{heap_items}
use Rattle.pg_least.specs.declared.arcs.Arc.{Arc}
use Rattle.pg_pairs.specs.bounds.Covering.{IsAmong}
use Rattle.pg_least.specs.inner.Relaxing.{Stands, cost_at, is_set}
use Rattle.pg_least.specs.inner.Graphs.{arcs_by, relaxed_by}
use Rattle.pg_least.proofs.relaxing.relax_all.Given as goal

abbrev pub invariant-loop-arc : goal.invariant-loop-arc
invariant-loop-arc g l = record {
  stands : (all done : List Arc) (bases : List (Option ℕ)) (settled : List Bool)
      → AllByRecursion (λ a. IsAmong a all × (is_set settled a.child ≡ true)
      × (cost_at l.fn.costs a.child ≡ Some l.fn.bound)) l.arcs
      → Stands (arcs_by (g.G.Prices.price_of l.graph)) all bases done l.fn.costs settled (heap_items l.fn.progress.queue.heap) l.fn.bound
      → Stands (arcs_by (g.G.Prices.price_of l.graph)) all bases (done ++ take l.arc-index l.arcs) l.costs settled
      (heap_items l.progress.queue.heap) l.fn.bound
      × ((i : ℕ) → is_set settled i ≡ true → cost_at l.costs i ≡ cost_at l.fn.costs i);
  counted : l.progress.work ≡ relaxed_by l.arc-index l.fn.progress.work;
}
