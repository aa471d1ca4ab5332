use Rattle.std.proofs.Common.{◌≡◌, ◌-◌, [], ℕ, List, length}
use Rattle.pg_schema.specs.standing.Places.{places_from}
use Rattle.pg_set.specs.inner.reading.Walks.{IsWalk, Walks, lists_of}
use Rattle.pg_set.proofs.reading.walk.post_order.Given as goal

abbrev pub invariant-loop-place : goal.invariant-loop-place
invariant-loop-place l = record {
  walk : IsWalk (lists_of l.imported) l.walk.seen.items [] l.walk.done.items;
  closed : l.walk.opened.items ≡ [];
  on : (listed : List ℕ) → Walks (lists_of l.imported) l.walk.done.items (places_from l.place (length l.imported - l.place)) listed → Walks (lists_of l.imported) [] (places_from 0 (length l.imported)) listed;
}
