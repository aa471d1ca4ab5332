use Rattle.std.proofs.Common.{◌≡◌, ℕ, ◌+◌, ◌<◌, ◌++◌, [], List, length, set, true, false, Some, ap, sym, ◌∙◌, subst, arith, heap_items, length-set}
use Rattle.std.specs.List.{AllByRecursion}
use Rattle.pg_pairs.specs.declared.graph.work.Work.{Work}
use Rattle.pg_least.specs.declared.arcs.Arc.{Arc}
use Rattle.pg_pairs.specs.bounds.Covering.{IsAmong}
use Rattle.pg_least.specs.inner.Relaxing.{Stands, cost_at, is_set}
use Rattle.pg_least.specs.inner.Graphs.{IsArc, arcs_by, arcs_to_settled, relaxed_by}
use Rattle.pg_least.proofs.Placing.{at_start, none_settled, none_counted, few_settled, each_to, each_to_new, done_on, long_none, one_less, one_more_settled, balanced, counted}
use Rattle.pg_least.proofs.relaxing.settle_all.Goals as goal

relaxed_none : (work : Work) → work ≡ relaxed_by 0 work
relaxed_none work = let sum : work.relaxed ≡ work.relaxed + 0 = omega arith in ap (λ r. record { settled = work.settled; relaxed = r; opened = work.opened }) sum

relaxed_on : (m n : ℕ) (work : Work) → relaxed_by n (relaxed_by m work) ≡ relaxed_by (m + n) work
relaxed_on m n work = let sum : work.relaxed + m + n ≡ work.relaxed + (m + n) = omega arith in ap (λ r. record { settled = work.settled; relaxed = r; opened = work.opened }) sum

pub loop-bound-init : goal.loop-bound-init
loop-bound-init g c =
    let none = c.in_ok-settled.ensures.items_if_clones_equal (λ y e. e) in
    let n = length c.args.costs.now in
    record {
      long = ap length none ∙ long_none n;
      stands = (
        0,
        [],
        at_start (g.G.Prices.price_of c.args.graph.now) c.args.arcs.now c.args.costs.now c.in_ok-settled.settled.items n (heap_items c.in_ok-queue.queue.heap) none c.in_ok-queue.ensures c.requires.numbers,
        λ a among h. absurd (none_settled c.args.arcs.now c.in_ok-settled.settled.items n none a h),
      );
      counted = relaxed_none c.args.work.now ∙ ap (λ (xs : List Arc). relaxed_by (length xs) c.args.work.now) (sym (none_counted c.args.arcs.now c.in_ok-settled.settled.items n none));
    }

pub relax_all-requires-clause-arcs : goal.relax_all-requires-clause-arcs
relax_all-requires-clause-arcs g c =
    let known = g.G.Prices.is_known c.args.graph.now in
    let edges = g.G.Prices.edges_of c.args.graph.now in
    let inside : c.in-Some.at < length c.loop-bound.costs = c.in-Some.ensures.within in
    let now = c.arcs_to.ensures in
    subst (λ n. AllByRecursion (IsArc known edges n) c.arcs_to.result.now) (sym c.loop-bound.auto.costs)
    (subst (λ (xs : List Arc). AllByRecursion (IsArc known edges (length c.args.costs.now)) xs) (sym now) (each_to (IsArc known edges (length c.args.costs.now)) c.args.arcs.now c.in-Some.at c.requires.arcs))

pub relax_all-requires-clause-room : goal.relax_all-requires-clause-room
relax_all-requires-clause-room g c =
    let inside : c.in-Some.at < length c.loop-bound.costs = c.in-Some.ensures.within in
    let inside_settled : c.in-Some.at < length c.loop-bound.settled.items = (let long = c.loop-bound.invariant.long in omega arith) in
    let fresh : is_set c.loop-bound.settled.items c.in-Some.at ≡ false = ap (λ s. is_set s c.in-Some.at) (sym c.deref.ensures.value) ∙ c.in-Some.ensures.fresh in
    let now = c.arcs_to.ensures in
    let same = ap length now in
    let more = one_more_settled c.loop-bound.settled.items c.in-Some.at inside_settled fresh c.args.arcs.now in
    let few = few_settled c.args.arcs.now (set c.loop-bound.settled.items c.in-Some.at true) in
    let work = ap (λ (w : Work). w.relaxed) c.loop-bound.invariant.counted in
    let room = c.requires.room in
    omega arith

pub loop-bound-smaller : goal.loop-bound-smaller
loop-bound-smaller g c =
    let inside : c.in-Some.at < length c.loop-bound.costs = c.in-Some.ensures.within in
    let inside_settled : c.in-Some.at < length c.loop-bound.settled.items = (let long = c.loop-bound.invariant.long in omega arith) in
    one_less c.loop-bound.settled.items c.in-Some.at inside_settled (ap (λ s. is_set s c.in-Some.at) (sym c.deref.ensures.value) ∙ c.in-Some.ensures.fresh)

pub loop-bound-preserved : goal.loop-bound-preserved
loop-bound-preserved g c =
    let price = g.G.Prices.price_of c.args.graph.now in
    let arcs = c.args.arcs.now in
    let at = c.in-Some.at in
    let before = c.loop-bound.settled.items in
    let after = set before at true in
    let inside : at < length c.loop-bound.costs = c.in-Some.ensures.within in
    let inside_settled : at < length before = (let long = c.loop-bound.invariant.long in omega arith) in
    let fresh : is_set before at ≡ false = ap (λ s. is_set s at) (sym c.deref.ensures.value) ∙ c.in-Some.ensures.fresh in
    let now = c.arcs_to.ensures in
    let (level, done, s, all_done) = c.loop-bound.invariant.stands in
    let s_now : Stands (arcs_by price) arcs c.args.costs.now done c.loop-bound.costs after (heap_items c.next_live.new.queue.heap) c.in-Some.bound =
    subst (λ x. Stands (arcs_by price) arcs c.args.costs.now done c.loop-bound.costs (set x at true) (heap_items c.next_live.new.queue.heap) c.in-Some.bound) c.deref.ensures.value
    (c.in-Some.ensures.settles (arcs_by price) arcs done c.args.costs.now level (subst (λ x. Stands (arcs_by price) arcs c.args.costs.now done c.loop-bound.costs x (heap_items c.loop-bound.progress.queue.heap) level) (sym c.deref.ensures.value) s)) in
    let each : AllByRecursion (λ (a : Arc). IsAmong a arcs × (is_set after a.child ≡ true) × (cost_at c.loop-bound.costs a.child ≡ Some c.in-Some.bound)) c.arcs_to.result.now =
    subst (λ (xs : List Arc). AllByRecursion (λ (a : Arc). IsAmong a arcs × (is_set after a.child ≡ true) × (cost_at c.loop-bound.costs a.child ≡ Some c.in-Some.bound)) xs) (sym now)
    (each_to_new arcs c.loop-bound.costs before at c.in-Some.bound inside_settled c.in-Some.ensures.costs) in
    record {
      long = length-set before at true ∙ c.loop-bound.invariant.long ∙ sym c.relax_all.auto.costs;
      stands = (
        c.in-Some.bound,
        done ++ c.arcs_to.result.now,
        c.in_ok-relax_all.ensures.stands arcs done c.args.costs.now after each s_now,
        λ a among h. subst (λ (xs : List Arc). IsAmong a (done ++ xs)) (sym now) (done_on arcs done before at all_done a among h),
      );
      counted =
          c.in_ok-relax_all.ensures.counted ∙ ap (relaxed_by (length c.arcs_to.result.now)) c.loop-bound.invariant.counted ∙ relaxed_on (length (arcs_to_settled arcs before)) (length c.arcs_to.result.now) c.args.work.now
          ∙ ap (λ n. relaxed_by n c.args.work.now) (ap (λ (xs : List Arc). length (arcs_to_settled arcs before) + length xs) now ∙ sym (one_more_settled before at inside_settled fresh arcs));
    }

pub returns-clause-balanced : goal.returns-clause-balanced
returns-clause-balanced g c =
    let price = g.G.Prices.price_of c.args.graph.now in
    let (level, done, s, all_done) = c.loop-bound.invariant.stands in
    let all_settled = c.in_default.ensures.none (arcs_by price) c.args.arcs.now done c.args.costs.now level (subst (λ x. Stands (arcs_by price) c.args.arcs.now c.args.costs.now done c.loop-bound.costs x (heap_items c.loop-bound.progress.queue.heap) level) (sym c.deref.ensures.value) s) in
    balanced price c.args.arcs.now done c.args.costs.now c.loop-bound.costs c.loop-bound.settled.items (heap_items c.loop-bound.progress.queue.heap) level s all_done
    (λ i cost is. ap (λ x. is_set x i) (sym c.deref.ensures.value) ∙ all_settled i cost is)

pub returns-clause-counted : goal.returns-clause-counted
returns-clause-counted g c =
    let price = g.G.Prices.price_of c.args.graph.now in
    let (level, done, s, all_done) = c.loop-bound.invariant.stands in
    let all_settled = c.in_default.ensures.none (arcs_by price) c.args.arcs.now done c.args.costs.now level (subst (λ x. Stands (arcs_by price) c.args.arcs.now c.args.costs.now done c.loop-bound.costs x (heap_items c.loop-bound.progress.queue.heap) level) (sym c.deref.ensures.value) s) in
    c.loop-bound.invariant.counted
    ∙ ap (λ (xs : List Arc). relaxed_by (length xs) c.args.work.now)
    (counted price c.args.arcs.now done c.args.costs.now c.loop-bound.costs c.loop-bound.settled.items (heap_items c.loop-bound.progress.queue.heap) level s all_done (λ i cost is. ap (λ x. is_set x i) (sym c.deref.ensures.value) ∙ all_settled i cost is))
