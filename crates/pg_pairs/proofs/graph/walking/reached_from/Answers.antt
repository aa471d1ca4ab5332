use Rattle.std.proofs.Common.{◌≡◌, true, ◌++◌, List, take, Option, Some, None, slice_get, refl, ap, sym, ◌∙◌, subst, append-nil, arith}
use Rattle.std.proofs.lemmas.List.{take_all}
use Rattle.std.specs.List.{AllByRecursion}
use Rattle.pg_pairs.specs.declared.choices.choice.Pair.{Pair}
use Rattle.pg_pairs.specs.bounds.Covering.{distinct}
use Rattle.pg_pairs.specs.graph.Reached.{IsLedTo, itself}
use Rattle.pg_pairs.proofs.lemmas.graph.Grown.{each_distinct}
use Rattle.pg_pairs.proofs.lemmas.graph.Reaching.{copied_at, every_is_among, once, next_found, next_led, all_found, all_closed, take_past, next_each, each_at}
use Rattle.pg_pairs.proofs.graph.walking.reached_from.Goals as goal
use Rattle.pg_pairs.proofs.graph.walking.reached_from.Goals.{else-loop-at-test, then-loop-at-test+in_default}

none_is : (o : Option Pair) → ((p : Pair) → o ≡ Some p → ⊥) → o ≡ None
none_is None h = refl
none_is (Some p) h = absurd (h p refl)

roots_led : (kids : Pair → List Pair) (roots : List Pair) → AllByRecursion (IsLedTo kids roots) roots
roots_led kids roots = every_is_among (IsLedTo kids roots) roots (λ root among. record { root = root; among = among; leads = itself })

pub loop-at-init : goal.loop-at-init
loop-at-init g c =
    let kids = g.G.Prices.children_of c.args.graph.now in
    let roots = c.args.roots.now in
    let known = λ (p : Pair). g.G.Prices.is_known c.args.graph.now p ≡ true in
    let first : c.add_unseen.new.pairs.items ≡ distinct roots = c.in_ok-add_unseen.ensures.added ∙ ap (λ (qs : List Pair). distinct (qs ++ roots)) c.new-pairs.ensures.items in
    record {
      in_order = first ∙ ap distinct (sym (append-nil roots));
      led_to = subst (AllByRecursion (IsLedTo kids roots)) (sym first) (each_distinct (IsLedTo kids roots) roots (roots_led kids roots));
      seen = c.in_ok-add_unseen.ensures.seen;
      known = subst (AllByRecursion known) (sym first) (each_distinct known roots c.requires);
    }

pub add_unseen-requires-in-loop-at-clause-once : goal.add_unseen-requires-in-loop-at-clause-once
add_unseen-requires-in-loop-at-clause-once g c =
    once (g.G.Prices.children_of c.args.graph.now) c.args.roots.now c.loop-at.at c.loop-at.pairs.items c.loop-at.invariant.in_order

pub loop-at-preserved : goal.loop-at-preserved
loop-at-preserved g c =
    let ps = c.loop-at.pairs.items in
    let after = c.add_unseen-in-loop-at.new.pairs.items in
    let kids = g.G.Prices.children_of c.args.graph.now in
    let roots = c.args.roots.now in
    let at = c.loop-at.at in
    let x = c.in-Some.pair in
    let here : slice_get ps at ≡ Some x = ap (λ (qs : List Pair). slice_get qs at) (sym c.deref.ensures.value) ∙ sym (copied_at (λ b. b.now) c.deref.result.now at c.get.result c.get.ensures.lookup.0 (c.get.ensures.lookup.4 (omega arith))) ∙ sym c.copied.ensures ∙ c.in-Some.is in
    let is : after ≡ distinct (ps ++ kids x) = c.in_ok-add_unseen-2.ensures.added ∙ ap (λ (qs : List Pair). distinct (ps ++ qs)) (c.deref-in-loop-at.ensures.value ∙ c.in_ok-found.ensures) in
    record {
      in_order = next_found kids roots ps at x here after is c.loop-at.invariant.in_order;
      led_to = next_led kids roots ps at x here after is c.loop-at.invariant.led_to;
      seen = c.in_ok-add_unseen-2.ensures.seen;
      known = next_each kids roots (λ (p : Pair). g.G.Prices.is_known c.args.graph.now p ≡ true) ps x after is c.loop-at.invariant.known (λ y among. g.G.Prices.children_are_known c.args.graph.now x y (each_at (λ (p : Pair). g.G.Prices.is_known c.args.graph.now p ≡ true) ps at x here c.loop-at.invariant.known) among);
    }

pub returns-clause-once : goal.returns-clause-once
returns-clause-once g c =
    once (g.G.Prices.children_of c.args.graph.now) c.args.roots.now c.loop-at.at c.loop-at.pairs.items c.loop-at.invariant.in_order

pub returns-clause-in_order : goal.returns-clause-in_order
returns-clause-in_order g c =
    let ps = c.loop-at.pairs.items in
    let past : take c.loop-at.at ps ≡ ps =
    elim c.loop-at-test.branch [
      | else-loop-at-test w ↦ take_all c.loop-at.at ps (let far = w.loop-at-test.false in let small = c.loop-at.pairs.small in omega arith)
      | then-loop-at-test+in_default w ↦ take_past ps c.loop-at.at (ap (λ (qs : List Pair). slice_get qs c.loop-at.at) (sym w.deref.ensures.value) ∙ sym (copied_at (λ b. b.now) w.deref.result.now c.loop-at.at w.get.result w.get.ensures.lookup.0 (w.get.ensures.lookup.4 (omega arith))) ∙ sym w.copied.ensures ∙ none_is w.copied.result w.in_default.not-Some)
    ] in
    all_found (g.G.Prices.children_of c.args.graph.now) c.args.roots.now ps c.loop-at.at past c.loop-at.invariant.in_order c.loop-at.invariant.led_to

pub returns-clause-closed : goal.returns-clause-closed
returns-clause-closed g c =
    let reached = returns-clause-in_order g c in
    all_closed (g.G.Prices.children_of c.args.graph.now) c.args.roots.now c.loop-at.pairs.items reached.in_order
