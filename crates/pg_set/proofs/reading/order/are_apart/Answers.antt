use Rattle.std.proofs.Common.{◌≡◌, ℕ, List, [], ◌∷◌, ◌++◌, inr, Bool, true, false, not, get_or, take, refl, sym, ap, ◌∙◌, subst}
use Rattle.std.proofs.lemmas.Map.Text.{btree_set_updates_text}
use Rattle.std.specs.BTreeSet.{contains_text}
use Rattle.std.specs.String.{string_bytes}
use denote.Ref.{Bor}
use Rattle.pg_schema.specs.rules.Pairs.{are_distinct}
use Rattle.pg_schema.specs.rules.TextSets.{IsSetOf, is_among}
use Rattle.pg_schema.proofs.lemmas.rules.TextSetLemmas.{distinct_more}
use Rattle.pg_set.specs.inner.Lent.{lent}
use Rattle.pg_set.proofs.lemmas.lists.TextSets.{set_more}
use Rattle.pg_set.proofs.lemmas.order.OrderSteps.{item_at_place, one_step, stands_twice}
use Rattle.pg_set.proofs.reading.order.are_apart.Goals as goal

present : (b : Bool) → not b ≡ false → b ≡ true
present true e = refl
present false e = sym e

pub returns-then-not-is_new-clause-refused : goal.returns-then-not-is_new-clause-refused
returns-then-not-is_new-clause-refused c =
    let paths = c.args.paths.now in
    let i = c.loop-path.path-index in
    let item : Bor (List ℕ) = get_or paths i (record { ref_ptr = (0, 0); now = [] }) in
    let key = string_bytes c.in_ok-from_str.field-0 in
    let there : is_among (lent (take i paths)) key ≡ true = sym (c.loop-path.invariant.held key) ∙ present (contains_text c.loop-path.seen key) (sym c.in_ok-is_new.ensures.added ∙ c.if-not-is_new.true) in
    inr (stands_twice (λ (x : Bor (List ℕ)). x.now) paths i item c.loop-path-test.true (item_at_place paths i (record { ref_ptr = (0, 0); now = [] }) c.loop-path-test.true)
    (subst (λ k. is_among (lent (take i paths)) k ≡ true) c.in_ok-from_str.ensures.ok there))

pub loop-path-preserved : goal.loop-path-preserved
loop-path-preserved c =
    let paths = c.args.paths.now in
    let i = c.loop-path.path-index in
    let item : Bor (List ℕ) = get_or paths i (record { ref_ptr = (0, 0); now = [] }) in
    let key = string_bytes c.in_ok-from_str.field-0 in
    let done = lent (take i paths) in
    let new : not (is_among done key) ≡ true = ap not (sym (c.loop-path.invariant.held key)) ∙ (sym c.in_ok-is_new.ensures.added ∙ c.if-not-is_new.false) in
    let step = one_step (λ (x : Bor (List ℕ)). x.now) paths i item c.loop-path-test.true (item_at_place paths i (record { ref_ptr = (0, 0); now = [] }) c.loop-path-test.true)
    ∙ ap (λ k. done ++ k ∷ []) (sym c.in_ok-from_str.ensures.ok) in
    record {
      once = subst (λ ts. are_distinct ts ≡ true) (sym step) (distinct_more done key c.loop-path.invariant.once new);
      held = subst (λ ts. IsSetOf ts c.insert.new.self) (sym step)
          (set_more done key c.loop-path.seen c.insert.new.self (btree_set_updates_text key c.loop-path.seen c.insert.new.self true c.in_ok-is_new.ensures.updates) c.loop-path.invariant.held);
    }
