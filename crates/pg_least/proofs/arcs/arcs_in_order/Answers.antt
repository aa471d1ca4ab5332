use Rattle.std.proofs.Common.{◌≡◌, ◌++◌, List, flat_map, slice_get, take, is_some, true, Some, get_or, ap, sym, ◌∙◌, subst}
use Rattle.std.specs.BTreeMap.{get}
use Rattle.std.specs.List.{AllByRecursion}
use Rattle.std.proofs.lemmas.Option.{slice_get-get_or}
use Rattle.pg_pairs.proofs.lemmas.choices.Among.{among_each}
use Rattle.pg_pairs.proofs.lemmas.graph.Reaching.{every_is_among}
use Rattle.pg_pairs.proofs.lemmas.graph.Grown.{take_more}
use Rattle.pg_pairs.specs.declared.choices.choice.Pair.{Pair}
use Rattle.pg_pairs.specs.declared.graph.edge.Edge.{Edge}
use Rattle.pg_pairs.specs.bounds.Covering.{IsAmong}
use Rattle.pg_pairs.specs.laws.ByIndices.{by_indices}
use Rattle.pg_least.proofs.Lists.{each_at}
use Rattle.pg_least.proofs.Tables.{place_there, flat_map-end}
use Rattle.pg_least.proofs.arcs.arcs_in_order.Goals as goal

unset : Pair
unset = record { old = record { index = 0 }; new = record { index = 0 } }

pub add_arcs-requires : goal.add_arcs-requires
unfolding unset
add_arcs-requires g c =
    let graph = c.args.graph.now in
    let pairs = c.args.pairs.now in
    let pair = get_or pairs c.loop-at.at unset in
    let known : g.G.Prices.is_known graph pair ≡ true = each_at (λ (p : Pair). g.G.Prices.is_known graph p ≡ true) pairs c.loop-at.at unset c.loop-at-test.true c.requires.known in
    let closed = each_at (λ (p : Pair). AllByRecursion (λ (x : Pair). IsAmong x pairs) (g.G.Prices.children_of graph p)) pairs c.loop-at.at unset c.loop-at-test.true c.requires.closed in
    subst (λ (es : List Edge). AllByRecursion (λ (e : Edge). is_some (get by_indices c.in_ok-places.places (e.child.old.index, e.child.new.index)) ≡ true) es) (sym (c.deref.ensures.value ∙ c.in_ok-edges.ensures))
    (every_is_among (λ (e : Edge). is_some (get by_indices c.in_ok-places.places (e.child.old.index, e.child.new.index)) ≡ true) (g.G.Prices.edges_of graph pair)
    (λ e among. place_there pairs c.in_ok-places.places c.in_ok-places.ensures e.child (among_each (λ (x : Pair). IsAmong x pairs) e.child (g.G.Prices.children_of graph pair) (g.G.Prices.edges_lead_to_children graph pair e known among).1 closed)))

pub loop-at-preserved : goal.loop-at-preserved
unfolding unset
loop-at-preserved g c =
    let graph = c.args.graph.now in
    let pairs = c.args.pairs.now in
    let at = c.loop-at.at in
    let pair = get_or pairs at unset in
    let known : g.G.Prices.is_known graph pair ≡ true = each_at (λ (p : Pair). g.G.Prices.is_known graph p ≡ true) pairs at unset c.loop-at-test.true c.requires.known in
    let is = c.deref.ensures.value ∙ c.in_ok-edges.ensures in
    let each : AllByRecursion (λ (e : Edge). slice_get pairs at ≡ Some e.from) c.deref.result.now =
    subst (λ (es : List Edge). AllByRecursion (λ (e : Edge). slice_get pairs at ≡ Some e.from) es) (sym is)
    (every_is_among (λ (e : Edge). slice_get pairs at ≡ Some e.from) (g.G.Prices.edges_of graph pair)
    (λ e among. slice_get-get_or pairs at unset c.loop-at-test.true ∙ ap Some (sym (g.G.Prices.edges_lead_to_children graph pair e known among).0))) in
    record {
      edges =
          c.in_ok-add_arcs.ensures.edges ∙ ap (λ (es : List Edge). es ++ c.deref.result.now) c.loop-at.invariant.edges ∙ ap (λ (es : List Edge). flat_map (g.G.Prices.edges_of graph) (take at pairs) ++ es) is
          ∙ sym (flat_map-end (g.G.Prices.edges_of graph) (take at pairs) pair) ∙ ap (λ (ps : List Pair). flat_map (g.G.Prices.edges_of graph) ps) (sym (take_more pairs at unset c.loop-at-test.true));
      placed = c.in_ok-add_arcs.ensures.placed pairs c.in_ok-places.ensures each c.loop-at.invariant.placed;
    }
