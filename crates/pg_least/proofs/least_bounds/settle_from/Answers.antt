use Rattle.std.proofs.Common.{◌≡◌, ℕ, ◌+◌, ◌<◌, ◌≤◌, List, Option, Bool, length, map, flat_map, filter, is_some, zero-add, take_at, true, ap, ap₂, sym, ◌∙◌, subst, subst₂, IfSome}
use Rattle.std.specs.List.{AllByRecursion}
use Rattle.std.specs.List.Sorted.{IsPermutation}
use Rattle.std.proofs.lemmas.List.{length-map}
use Rattle.pg_dyn.specs.encoding.Encoding.{cap}
use Rattle.pg_pairs.proofs.lemmas.choices.Among.{among_each}
use Rattle.pg_pairs.specs.declared.choices.choice.Pair.{Pair}
use Rattle.pg_pairs.specs.declared.graph.edge.Edge.{Edge}
use Rattle.pg_pairs.specs.declared.graph.work.Work.{Work}
use Rattle.pg_pairs.specs.bounds.Covering.{IsAmong, distinct}
use Rattle.pg_pairs.specs.graph.Reached.{IsReachedFrom}
use Rattle.pg_cert.specs.declared.bounds.PairBound.{PairBound}
use Rattle.pg_cert.specs.Certificate.{bound_in, is_bound}
use Rattle.pg_least.specs.declared.arcs.Arc.{Arc}
use Rattle.pg_least.specs.inner.Graphs.{IsArc, arcs_by, arcs_to_numbers}
use Rattle.pg_least.specs.From.{IsSettledFrom}
use Rattle.pg_least.specs.Least.{IsCounted, edges_to_numbers}
use Rattle.pg_least.specs.inner.Graphs.{lines}
use Rattle.pg_least.specs.inner.Places.{IsPlaced}
use Rattle.pg_least.specs.inner.Relaxing.{IsBalanced, cost_at}
use Rattle.pg_least.proofs.Bounding.{arcs_are, bases_are_small, costs_are_bounds, least_bound, lines_long, numbers_of_lines, once_lines, pairs_of_lines, relaxed_count}
use Rattle.pg_least.proofs.least_bounds.settle_from.Goals as goal

-- What holds of a graph's pairs, edges and costs.
module _ (children : Pair → List Pair) (edges : Pair → List Edge) (base : Pair → Option ℕ) (price : Edge → ℕ → Option ℕ) (known : Pair → Bool)
    (edges_lead : (p : Pair) (e : Edge) → known p ≡ true → IsAmong e (edges p) → (e.from ≡ p) × IsAmong e.child (children p))
    (base_small : (p : Pair) → known p ≡ true → IfSome (base p) (λ n. (1 ≤ n) × (n ≤ cap)))
    (cost_more : (p : Pair) (e : Edge) (bound : ℕ) → 1 ≤ bound → known p ≡ true → IsAmong e (edges p) → IfSome (price e bound) (λ n. (bound < n) × (n ≤ cap)))
    (ps : List Pair) (each : AllByRecursion (λ (p : Pair). known p ≡ true) ps) (arcs : List Arc) (moved : IsPermutation (flat_map edges ps) (map (λ (a : Arc). a.edge) arcs)) (placed : AllByRecursion (IsPlaced ps) arcs) where
  from_own : (p : Pair) (e : Edge) → IsAmong p ps → IsAmong e (edges p) → e.from ≡ p
  from_own p e there of_p = (edges_lead p e (among_each (λ (q : Pair). known q ≡ true) p ps there each) of_p).0

  each_arc : AllByRecursion (IsArc known edges (length ps)) arcs
  each_arc = arcs_are known edges ps arcs from_own each moved placed

  module _ (costs : List (Option ℕ)) (long : length costs ≡ length ps) (balanced : IsBalanced (arcs_by price) arcs (map base ps) costs) where
    each_bound : AllByRecursion (λ o. is_bound o ≡ true) costs
    each_bound =
        costs_are_bounds price arcs (map base ps) costs (bases_are_small base known base_small ps each)
        (λ a bound some among. let at = among_each (IsArc known edges (length ps)) a arcs among each_arc in cost_more a.edge.from a.edge bound some at.known at.edge) balanced

    module _ (once : distinct ps ≡ ps) where
      settled : (roots : List Pair) → IsReachedFrom children roots ps → IsSettledFrom children edges base price roots (lines ps costs)
      settled roots reached = record {
        reached = subst (IsReachedFrom children roots) (sym (pairs_of_lines ps costs long)) reached;
        least = least_bound edges base price ps arcs costs long (once_lines ps costs once long each_bound) from_own moved placed balanced;
      }

      counted : (work : Work) → work.settled ≡ length (filter is_some costs) → work.relaxed ≡ length (arcs_to_numbers arcs costs) → work.opened ≡ length ps → IsCounted edges (lines ps costs) work
      counted work settled_is relaxed_is opened_is = record {
        settled = settled_is ∙ sym (numbers_of_lines ps costs long);
        relaxed = relaxed_is ∙ relaxed_count edges base price ps arcs costs long (once_lines ps costs once long each_bound) from_own moved placed
            ∙ ap (λ (qs : List Pair). length (edges_to_numbers (bound_in (lines ps costs)) (flat_map edges qs))) (sym (pairs_of_lines ps costs long));
        opened = opened_is ∙ sym (lines_long ps costs long);
      }

pub settle_all-requires-clause-arcs : goal.settle_all-requires-clause-arcs
settle_all-requires-clause-arcs g c =
    let graph = c.args.graph.now in
    let ps = c.in_ok-pairs.pairs.items in
    let same = c.deref-2.ensures.value in
    let moved = subst (λ (qs : List Pair). IsPermutation (flat_map (g.G.Prices.edges_of graph) qs) (map (λ (a : Arc). a.edge) c.in_ok-arcs.arcs.items)) same c.in_ok-arcs.ensures.edges in
    let placed = subst (λ (qs : List Pair). AllByRecursion (IsPlaced qs) c.in_ok-arcs.arcs.items) same c.in_ok-arcs.ensures.placed in
    let long : length c.deref_mut.result.now ≡ length ps = ap length (c.deref_mut.ensures.value ∙ c.in_ok-costs.ensures.bases ∙ ap (map (g.G.Prices.base_of graph)) c.deref.ensures.value) ∙ length-map ps (g.G.Prices.base_of graph) in
    subst₂ (λ (n : ℕ) (xs : List Arc). AllByRecursion (IsArc (g.G.Prices.is_known graph) (g.G.Prices.edges_of graph) n) xs) (sym long) (sym c.deref-3.ensures.value)
    (each_arc (g.G.Prices.children_of graph) (g.G.Prices.edges_of graph) (g.G.Prices.base_of graph) (g.G.Prices.price_of graph) (g.G.Prices.is_known graph) (g.G.Prices.edges_lead_to_children graph) (g.G.Prices.bases_are_lengths graph) (g.G.Prices.edges_cost_more graph)
    ps c.in_ok-pairs.ensures.known c.in_ok-arcs.arcs.items moved placed)

pub settle_all-requires-clause-numbers : goal.settle_all-requires-clause-numbers
settle_all-requires-clause-numbers g c i n is =
    let graph = c.args.graph.now in
    let bases = c.deref_mut.ensures.value ∙ c.in_ok-costs.ensures.bases ∙ ap (map (g.G.Prices.base_of graph)) c.deref.ensures.value in
    (subst (λ o. IfSome o (λ n. (1 ≤ n) × (n ≤ cap))) (ap (λ (cs : List (Option ℕ)). cost_at cs i) (sym bases) ∙ is)
    (bases_are_small (g.G.Prices.base_of graph) (g.G.Prices.is_known graph) (g.G.Prices.bases_are_lengths graph) c.in_ok-pairs.pairs.items c.in_ok-pairs.ensures.known i)).0

pub table_of-requires-clause-bounds : goal.table_of-requires-clause-bounds
table_of-requires-clause-bounds g c =
    let graph = c.args.graph.now in
    let ps = c.in_ok-pairs.pairs.items in
    let same = c.deref-2.ensures.value in
    let moved = subst (λ (qs : List Pair). IsPermutation (flat_map (g.G.Prices.edges_of graph) qs) (map (λ (a : Arc). a.edge) c.in_ok-arcs.arcs.items)) same c.in_ok-arcs.ensures.edges in
    let placed = subst (λ (qs : List Pair). AllByRecursion (IsPlaced qs) c.in_ok-arcs.arcs.items) same c.in_ok-arcs.ensures.placed in
    let bases = c.deref_mut.ensures.value ∙ c.in_ok-costs.ensures.bases ∙ ap (map (g.G.Prices.base_of graph)) c.deref.ensures.value in
    let long : length c.settle_all.new.costs ≡ length ps = c.settle_all.auto.costs ∙ ap length bases ∙ length-map ps (g.G.Prices.base_of graph) in
    let balanced = subst₂ (λ (xs : List Arc) (bs : List (Option ℕ)). IsBalanced (arcs_by (g.G.Prices.price_of graph)) xs bs c.settle_all.new.costs) c.deref-3.ensures.value bases c.in_ok-settle_all.ensures.balanced in
    subst (λ (cs : List (Option ℕ)). AllByRecursion (λ o. is_bound o ≡ true) cs) (sym (c.deref-6.ensures.value ∙ take_at c.settle_all.new.costs _ c.in_ok-costs.costs.len (c.settle_all.auto.costs ∙ c.deref_mut.ensures.len)))
    (each_bound (g.G.Prices.children_of graph) (g.G.Prices.edges_of graph) (g.G.Prices.base_of graph) (g.G.Prices.price_of graph) (g.G.Prices.is_known graph) (g.G.Prices.edges_lead_to_children graph) (g.G.Prices.bases_are_lengths graph) (g.G.Prices.edges_cost_more graph)
    ps c.in_ok-pairs.ensures.known c.in_ok-arcs.arcs.items moved placed c.settle_all.new.costs long balanced)

pub returns-clause-settled : goal.returns-clause-settled
returns-clause-settled g c =
    let graph = c.args.graph.now in
    let ps = c.in_ok-pairs.pairs.items in
    let same = c.deref-2.ensures.value in
    let moved = subst (λ (qs : List Pair). IsPermutation (flat_map (g.G.Prices.edges_of graph) qs) (map (λ (a : Arc). a.edge) c.in_ok-arcs.arcs.items)) same c.in_ok-arcs.ensures.edges in
    let placed = subst (λ (qs : List Pair). AllByRecursion (IsPlaced qs) c.in_ok-arcs.arcs.items) same c.in_ok-arcs.ensures.placed in
    let bases = c.deref_mut.ensures.value ∙ c.in_ok-costs.ensures.bases ∙ ap (map (g.G.Prices.base_of graph)) c.deref.ensures.value in
    let long : length c.settle_all.new.costs ≡ length ps = c.settle_all.auto.costs ∙ ap length bases ∙ length-map ps (g.G.Prices.base_of graph) in
    let balanced = subst₂ (λ (xs : List Arc) (bs : List (Option ℕ)). IsBalanced (arcs_by (g.G.Prices.price_of graph)) xs bs c.settle_all.new.costs) c.deref-3.ensures.value bases c.in_ok-settle_all.ensures.balanced in
    subst (λ (bounds : List PairBound). IsSettledFrom (g.G.Prices.children_of graph) (g.G.Prices.edges_of graph) (g.G.Prices.base_of graph) (g.G.Prices.price_of graph) c.args.roots.now bounds) (sym (c.in_ok-table_of.ensures ∙ ap₂ lines c.deref-5.ensures.value (c.deref-6.ensures.value ∙ take_at c.settle_all.new.costs _ c.in_ok-costs.costs.len (c.settle_all.auto.costs ∙ c.deref_mut.ensures.len))))
    (settled (g.G.Prices.children_of graph) (g.G.Prices.edges_of graph) (g.G.Prices.base_of graph) (g.G.Prices.price_of graph) (g.G.Prices.is_known graph) (g.G.Prices.edges_lead_to_children graph) (g.G.Prices.bases_are_lengths graph) (g.G.Prices.edges_cost_more graph)
    ps c.in_ok-pairs.ensures.known c.in_ok-arcs.arcs.items moved placed c.settle_all.new.costs long balanced c.in_ok-pairs.ensures.once c.args.roots.now c.in_ok-pairs.ensures.in_order)

pub returns-clause-counted : goal.returns-clause-counted
returns-clause-counted g c =
    let graph = c.args.graph.now in
    let ps = c.in_ok-pairs.pairs.items in
    let same = c.deref-2.ensures.value in
    let moved = subst (λ (qs : List Pair). IsPermutation (flat_map (g.G.Prices.edges_of graph) qs) (map (λ (a : Arc). a.edge) c.in_ok-arcs.arcs.items)) same c.in_ok-arcs.ensures.edges in
    let placed = subst (λ (qs : List Pair). AllByRecursion (IsPlaced qs) c.in_ok-arcs.arcs.items) same c.in_ok-arcs.ensures.placed in
    let bases = c.deref_mut.ensures.value ∙ c.in_ok-costs.ensures.bases ∙ ap (map (g.G.Prices.base_of graph)) c.deref.ensures.value in
    let long : length c.settle_all.new.costs ≡ length ps = c.settle_all.auto.costs ∙ ap length bases ∙ length-map ps (g.G.Prices.base_of graph) in
    let balanced = subst₂ (λ (xs : List Arc) (bs : List (Option ℕ)). IsBalanced (arcs_by (g.G.Prices.price_of graph)) xs bs c.settle_all.new.costs) c.deref-3.ensures.value bases c.in_ok-settle_all.ensures.balanced in
    let relaxed : c.settle_all.new.work.relaxed ≡ length (arcs_to_numbers c.in_ok-arcs.arcs.items c.settle_all.new.costs) =
    ap (λ (w : Work). w.relaxed) c.in_ok-settle_all.ensures.counted ∙ ap (λ (w : Work). w.relaxed + length (arcs_to_numbers c.deref-3.result.now c.settle_all.new.costs)) c.in_ok-costs.ensures.counted
    ∙ zero-add (length (arcs_to_numbers c.deref-3.result.now c.settle_all.new.costs)) ∙ ap (λ (xs : List Arc). length (arcs_to_numbers xs c.settle_all.new.costs)) c.deref-3.ensures.value in
    let opened : c.settle_all.new.work.opened ≡ length ps =
    ap (λ (w : Work). w.opened) c.in_ok-settle_all.ensures.counted ∙ ap (λ (w : Work). w.opened) c.in_ok-costs.ensures.counted ∙ zero-add (length c.deref.result.now) ∙ ap length c.deref.ensures.value in
    subst (λ (bounds : List PairBound). IsCounted (g.G.Prices.edges_of graph) bounds (record { settled = c.count_numbers.result; relaxed = c.settle_all.new.work.relaxed; opened = c.settle_all.new.work.opened }))
    (sym (c.in_ok-table_of.ensures ∙ ap₂ lines c.deref-5.ensures.value (c.deref-6.ensures.value ∙ take_at c.settle_all.new.costs _ c.in_ok-costs.costs.len (c.settle_all.auto.costs ∙ c.deref_mut.ensures.len))))
    (counted (g.G.Prices.children_of graph) (g.G.Prices.edges_of graph) (g.G.Prices.base_of graph) (g.G.Prices.price_of graph) (g.G.Prices.is_known graph) (g.G.Prices.edges_lead_to_children graph) (g.G.Prices.bases_are_lengths graph) (g.G.Prices.edges_cost_more graph)
    ps c.in_ok-pairs.ensures.known c.in_ok-arcs.arcs.items moved placed c.settle_all.new.costs long balanced c.in_ok-pairs.ensures.once
    (record { settled = c.count_numbers.result; relaxed = c.settle_all.new.work.relaxed; opened = c.settle_all.new.work.opened }) (c.count_numbers.ensures ∙ ap (λ (cs : List (Option ℕ)). length (filter is_some cs)) (c.deref-4.ensures.value ∙ take_at c.settle_all.new.costs _ c.in_ok-costs.costs.len (c.settle_all.auto.costs ∙ c.deref_mut.ensures.len))) relaxed opened)
