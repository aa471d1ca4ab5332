use Rattle.std.proofs.Common.{ℕ, List}
use Rattle.pg_set.specs.inner.reading.Walks.{Ends, IsWalk, left, lists_of}
use Rattle.pg_set.proofs.reading.walk.Walk.finish.Given as goal

abbrev pub invariant-loop-top : goal.invariant-loop-top
invariant-loop-top l = record {
  walk : IsWalk (lists_of l.imported) l.self.seen.items l.self.opened.items l.self.done.items;
  on : (listed : List ℕ) → Ends (lists_of l.imported) l.self.opened.items l.self.done.items listed → Ends (lists_of l.imported) l.fn.self.opened.items l.fn.self.done.items listed;
}

abbrev pub decreases-loop-top : goal.decreases-loop-top
decreases-loop-top l = left (lists_of l.imported) l.self.seen.items l.self.opened.items
