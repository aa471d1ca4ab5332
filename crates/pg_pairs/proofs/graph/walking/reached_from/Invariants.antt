use Rattle.std.proofs.Common.{◌≡◌, true, ◌++◌, flat_map, take}
use Rattle.std.specs.List.{AllByRecursion}
use Rattle.pg_pairs.specs.declared.choices.choice.Pair.{Pair}
use Rattle.pg_pairs.specs.bounds.Covering.{distinct}
use Rattle.pg_pairs.specs.inner.Seen.{AreSeen}
use Rattle.pg_pairs.specs.graph.Reached.{IsLedTo}
use Rattle.pg_pairs.proofs.graph.walking.reached_from.Given as goal

abbrev pub invariant-loop-at : goal.invariant-loop-at
invariant-loop-at g l =
    record {
      in_order : l.pairs.items ≡ distinct (l.fn.roots ++ flat_map (g.G.Prices.children_of l.graph) (take l.at l.pairs.items));
      led_to : AllByRecursion (IsLedTo (g.G.Prices.children_of l.graph) l.fn.roots) l.pairs.items;
      known : AllByRecursion (λ (p : Pair). g.G.Prices.is_known l.graph p ≡ true) l.pairs.items;
      seen : AreSeen l.pairs.items l.seen;
    }
