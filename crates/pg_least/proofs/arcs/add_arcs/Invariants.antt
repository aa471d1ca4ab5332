use Rattle.std.proofs.Common.{◌≡◌, ◌++◌, List, length, map, take, slice_get, Some}
use Rattle.std.specs.List.{AllByRecursion}
use Rattle.pg_pairs.specs.declared.choices.choice.Pair.{Pair}
use Rattle.pg_pairs.specs.declared.graph.edge.Edge.{Edge}
use Rattle.pg_least.specs.declared.arcs.Arc.{Arc}
use Rattle.pg_least.specs.inner.Places.{ArePlaces, IsPlaced}
use Rattle.pg_least.proofs.arcs.add_arcs.Given as goal

abbrev pub invariant-loop-edge : goal.invariant-loop-edge
invariant-loop-edge l = record {
  edges : map (λ (a : Arc). a.edge) l.arcs.items ≡ map (λ (a : Arc). a.edge) l.fn.arcs.items ++ take l.edge-index l.edges;
  placed : (pairs : List Pair) → ArePlaces pairs (length pairs) l.places
      → AllByRecursion (λ (e : Edge). slice_get pairs l.fn.from ≡ Some e.from) l.edges
      → AllByRecursion (IsPlaced pairs) l.fn.arcs.items → AllByRecursion (IsPlaced pairs) l.arcs.items;
}
