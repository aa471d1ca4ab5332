use Rattle.std.proofs.Common.{◌≡◌, map, flat_map, take}
use Rattle.std.specs.List.{AllByRecursion}
use Rattle.pg_least.specs.declared.arcs.Arc.{Arc}
use Rattle.pg_least.specs.inner.Places.{IsPlaced}
use Rattle.pg_least.proofs.arcs.arcs_in_order.Given as goal

abbrev pub invariant-loop-at : goal.invariant-loop-at
invariant-loop-at g l = record {
  edges : map (λ (a : Arc). a.edge) l.arcs.items ≡ flat_map (g.G.Prices.edges_of l.graph) (take l.at l.pairs);
  placed : AllByRecursion (IsPlaced l.pairs) l.arcs.items;
}
