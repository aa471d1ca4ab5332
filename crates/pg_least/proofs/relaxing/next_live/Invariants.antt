use Rattle.std.proofs.Common.{List, Option, ℕ}
use Rattle.std.specs.BinaryHeap.{heap_items, heap_len}
use Rattle.pg_least.specs.declared.arcs.Arc.{Arc}
use Rattle.pg_least.specs.inner.Relaxing.{Arcs, Stands}
use Rattle.pg_least.proofs.relaxing.next_live.Given as goal

abbrev pub invariant-loop-cost : goal.invariant-loop-cost
invariant-loop-cost l = (g : Arcs Arc) (all done : List Arc) (bases : List (Option ℕ)) (level : ℕ)
    → Stands g all bases done l.costs l.settled (heap_items l.fn.queue.heap) level
    → Stands g all bases done l.costs l.settled (heap_items l.queue.heap) level

abbrev pub decreases-loop-cost : goal.decreases-loop-cost
decreases-loop-cost l = heap_len l.queue.heap
