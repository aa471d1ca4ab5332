use Rattle.std.proofs.Common.{List, map, subst, rules}
use Rattle.std.specs.List.Sorted.{IsPermutation}
use Rattle.std.proofs.lemmas.List.Sorted.{IsNonDecreasingBy-from_sort_by_key, IsPermutation-map}
use Rattle.pg_pairs.proofs.lemmas.choices.Among.{among_each}
use Rattle.pg_pairs.proofs.lemmas.graph.Reaching.{every_is_among}
use Rattle.pg_pairs.specs.declared.graph.edge.Edge.{Edge}
use Rattle.pg_least.specs.declared.arcs.Arc.{Arc}
use Rattle.pg_least.specs.inner.Places.{IsPlaced}
use Rattle.pg_least.proofs.Moved.{among_back}
use Rattle.pg_least.proofs.arcs.arcs_of.Goals as goal

pub returns-clause-edges : goal.returns-clause-edges
returns-clause-edges g c =
    let after = c.sort_unstable_by_key.new.self.items in
    subst (λ (es : List Edge). IsPermutation es (map (λ (a : Arc). a.edge) after)) c.in_ok-arcs.ensures.edges
    (IsPermutation-map (λ (a : Arc). a.edge) c.in_ok-arcs.arcs.items after c.sort_unstable_by_key.ensures.permutation)

pub returns-clause-placed : goal.returns-clause-placed
returns-clause-placed g c =
    let before = c.in_ok-arcs.arcs.items in
    let after = c.sort_unstable_by_key.new.self.items in
    every_is_among (IsPlaced c.args.pairs.now) after (λ a among. among_each (IsPlaced c.args.pairs.now) a before (among_back a before after c.sort_unstable_by_key.ensures.permutation among) c.in_ok-arcs.ensures.placed)

pub returns-clause-by_child : goal.returns-clause-by_child
returns-clause-by_child g c =
    IsNonDecreasingBy-from_sort_by_key (λ (a : Arc). a.child) c.sort_unstable_by_key.new.self.items c.sort_unstable_by_key.ensures.sorted (λ a r f h. search rules)
