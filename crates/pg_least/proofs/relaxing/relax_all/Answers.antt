use Rattle.std.proofs.Common.{◌≡◌, ◌+◌, ◌++◌, ◌<◌, ◌≤◌, ◌∷◌, [], take, List, length, Option, true, Some, ℕ, get_or, ap, sym, ◌∙◌, subst, append_assoc, IfSome, heap_items, arith}
use Rattle.std.proofs.lemmas.List.{take_all}
use Rattle.pg_pairs.proofs.lemmas.graph.Grown.{take_more}
use Rattle.pg_pairs.specs.declared.graph.edge.Part.TheVariants.{Whole}
use Rattle.pg_pairs.specs.declared.graph.work.Work.{Work}
use Rattle.pg_pairs.specs.graph.Works.{relaxed_more}
use Rattle.pg_least.specs.declared.arcs.Arc.{Arc}
use Rattle.pg_pairs.specs.bounds.Covering.{IsAmong}
use Rattle.pg_least.specs.inner.Relaxing.{Stands, cost_at, is_set}
use Rattle.pg_least.specs.inner.Graphs.{IsArc, arcs_by, relaxed_by}
use Rattle.pg_least.proofs.Lists.{each_at}
use Rattle.pg_least.proofs.Steps.{relaxes}
use Rattle.pg_least.proofs.relaxing.relax_all.Goals as goal

unset : Arc
unset = record { from = 0; child = 0; edge = record { from = record { old = record { index = 0 }; new = record { index = 0 } }; child = record { old = record { index = 0 }; new = record { index = 0 } }; number = 0; part = Whole } }

cost_more : (o : Option ℕ) (bound top : ℕ) → IfSome o (λ cost. (bound < cost) × (cost ≤ top)) → (c : ℕ) → o ≡ Some c → bound < c
cost_more o bound top h c is = (subst (λ p. IfSome p (λ cost. (bound < cost) × (cost ≤ top))) is h).0

one_more : (k : ℕ) (work : Work) → relaxed_more (relaxed_by k work) ≡ relaxed_by (k + 1) work
one_more k work = let sum : work.relaxed + k + 1 ≡ work.relaxed + (k + 1) = omega arith in ap (λ r. record { settled = work.settled; relaxed = r; opened = work.opened }) sum

pub loop-arc-preserved : goal.loop-arc-preserved
unfolding unset
loop-arc-preserved g c =
    let xs = c.args.arcs.now in
    let k = c.loop-arc.arc-index in
    let x = get_or xs k unset in
    let price = g.G.Prices.price_of c.args.graph.now in
    let arc = each_at (IsArc (g.G.Prices.is_known c.args.graph.now) (g.G.Prices.edges_of c.args.graph.now) (length c.args.costs.now)) xs k unset c.loop-arc-test.true c.requires.arcs in
    record {
      stands = λ all done bases settled each s.
          let (so_far, kept) = c.loop-arc.invariant.stands all done bases settled each s in
          let (among, child, child_is) = each_at (λ a. IsAmong a all × (is_set settled a.child ≡ true) × (cost_at c.args.costs.now a.child ≡ Some c.args.bound)) xs k unset c.loop-arc-test.true each in
          let (after, stays, long) = relaxes (arcs_by price) all bases (done ++ take k xs) c.loop-arc.costs settled (heap_items c.loop-arc.progress.queue.heap) c.args.bound so_far x among child (kept x.child child ∙ child_is)
          (cost_more (price x.edge c.args.bound) c.args.bound 2147483647 (g.G.Prices.edges_cost_more c.args.graph.now x.edge.from x.edge c.args.bound (s.numbers x.child c.args.bound child_is) arc.known arc.edge))
          (subst (λ n. x.from < n) (sym c.loop-arc.auto.costs) arc.from)
          c.relax.new.costs (heap_items c.relax.new.progress.queue.heap) c.in_ok-relax.ensures.relaxed in (
            subst (λ (ds : List Arc). Stands (arcs_by price) all bases ds c.relax.new.costs settled (heap_items c.relax.new.progress.queue.heap) c.args.bound)
                (append_assoc done (take k xs) (x ∷ []) ∙ ap (λ ys. done ++ ys) (sym (take_more xs k unset c.loop-arc-test.true))) after,
            λ i h. stays i h ∙ kept i h,
          );
      counted = c.in_ok-relax.ensures.counted ∙ ap relaxed_more c.loop-arc.invariant.counted ∙ one_more k c.args.progress.now.work;
    }

pub returns-clause-stands : goal.returns-clause-stands
returns-clause-stands g c all done bases settled each s =
    subst (λ (ds : List Arc). Stands (arcs_by (g.G.Prices.price_of c.args.graph.now)) all bases (done ++ ds) c.loop-arc.costs settled (heap_items c.loop-arc.progress.queue.heap) c.args.bound)
    (take_all c.loop-arc.arc-index c.args.arcs.now (let end = c.loop-arc-test.false in omega arith)) (c.loop-arc.invariant.stands all done bases settled each s).0
