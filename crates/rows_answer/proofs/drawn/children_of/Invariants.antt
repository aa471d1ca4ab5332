use Rattle.std.proofs.Common.{◌≡◌, map, take}
use Rattle.pg_pairs.specs.declared.graph.edge.Edge.{Edge}
use Rattle.rows_answer.proofs.drawn.children_of.Given as goal

abbrev pub invariant-loop-edge : goal.invariant-loop-edge
invariant-loop-edge l = l.children.items ≡ map (λ (e : Edge). e.child) (take l.edge-index l.edges)
