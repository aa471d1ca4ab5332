use Rattle.std.proofs.Common.{◌≡◌, ℕ, ◌+◌, List, [], ◌∷◌, ◌++◌, inr, get_or, take, Some, None, sym, ap, ◌∙◌, subst}
use Rattle.std.specs.BTreeMap.{get_by_text}
use Rattle.std.specs.Option.{option_copied}
use denote.Ref.{Bor}
use Rattle.pg_schema.specs.rules.TextSets.{is_among}
use Rattle.pg_set.specs.inner.Lent.{lent}
use Rattle.pg_set.specs.inner.reading.FilePlaces.{StandAt}
use Rattle.pg_set.proofs.lemmas.order.Ordering.{index_lacks}
use Rattle.pg_set.proofs.lemmas.order.OrderSteps.{item_at_place, one_step, path_fails, stand_more}
use Rattle.pg_set.proofs.reading.order.imported.Goals as goal

pub returns-in-None-clause-refused : goal.returns-in-None-clause-refused
returns-in-None-clause-refused c =
    let paths = c.args.paths.now in
    let i = c.loop-path.path-index in
    let item : Bor (List ℕ) = get_or paths i (record { ref_ptr = (0, 0); now = [] }) in
    let none : get_by_text c.args.places.now item.now ≡ None = sym c.get.ensures.value ∙ ap option_copied c.in-None.is in
    inr (λ all index. path_fails (is_among all) paths i item c.loop-path-test.true
    (item_at_place paths i (record { ref_ptr = (0, 0); now = [] }) c.loop-path-test.true) (index_lacks all c.args.places.now item.now index none))

pub loop-path-preserved : goal.loop-path-preserved
loop-path-preserved c =
    let paths = c.args.paths.now in
    let i = c.loop-path.path-index in
    let item : Bor (List ℕ) = get_or paths i (record { ref_ptr = (0, 0); now = [] }) in
    let found : get_by_text c.args.places.now item.now ≡ Some c.in-Some.place.now = sym c.get.ensures.value ∙ ap option_copied c.in-Some.is in
    let step = one_step (λ (x : Bor (List ℕ)). x.now) paths i item c.loop-path-test.true (item_at_place paths i (record { ref_ptr = (0, 0); now = [] }) c.loop-path-test.true) in
    λ all index.
    subst (λ xs. StandAt all xs (lent (take (i + 1) paths))) (sym c.in_ok-push-in-Some.ensures.items)
    (subst (StandAt all (c.loop-path.imported.items ++ c.in-Some.place.now ∷ [])) (sym step)
    (stand_more all c.loop-path.imported.items (lent (take i paths)) c.in-Some.place.now item.now ((index item.now c.in-Some.place.now).0 found) (c.loop-path.invariant all index)))
