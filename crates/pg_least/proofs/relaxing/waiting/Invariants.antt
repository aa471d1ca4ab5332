use Rattle.std.proofs.Common.{◌≡◌, ◌<◌, ℕ, true, Some, heap_items}
use Rattle.pg_least.specs.inner.Relaxing.{cost_at, waits}
use Rattle.pg_least.proofs.relaxing.waiting.Given as goal

abbrev pub invariant-loop-at : goal.invariant-loop-at
invariant-loop-at l = (i c : ℕ) → i < l.at → cost_at l.costs i ≡ Some c → waits (heap_items l.queue.heap) c i ≡ true
