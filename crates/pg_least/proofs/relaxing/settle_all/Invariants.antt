use Rattle.std.proofs.Common.{◌≡◌, ℕ, List, length, true, heap_items}
use Rattle.pg_least.specs.declared.arcs.Arc.{Arc}
use Rattle.pg_pairs.specs.bounds.Covering.{IsAmong}
use Rattle.pg_least.specs.inner.Relaxing.{Stands, is_set}
use Rattle.pg_least.specs.inner.Graphs.{arcs_by, arcs_to_settled, left, relaxed_by}
use Rattle.pg_least.proofs.relaxing.settle_all.Given as goal

abbrev pub invariant-loop-bound : goal.invariant-loop-bound
invariant-loop-bound g l = record {
  long : length l.settled.items ≡ length l.costs;
  stands : (level : ℕ) × (done : List Arc)
      × Stands (arcs_by (g.G.Prices.price_of l.graph)) l.arcs l.fn.costs done l.costs l.settled.items
      (heap_items l.progress.queue.heap) level
      × ((a : Arc) → IsAmong a l.arcs → is_set l.settled.items a.child ≡ true → IsAmong a done);
  counted : l.progress.work ≡ relaxed_by (length (arcs_to_settled l.arcs l.settled.items)) l.fn.work;
}

abbrev pub decreases-loop-bound : goal.decreases-loop-bound
decreases-loop-bound g l = left l.settled.items
