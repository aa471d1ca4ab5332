use Rattle.std.proofs.Common.{◌≡◌, ◌+◌, Bor, ℕ, List, [], get_or, take, drop, not, true, false, sym, ap, ◌∙◌, subst}
use Rattle.pg_schema.specs.rules.Pairs.{are_distinct}
use Rattle.pg_schema.specs.inner.LentTexts.{IsLentSetOf, lent}
use Rattle.pg_schema.specs.rules.TextSets.{is_among}
use Rattle.pg_schema.proofs.lemmas.rules.TextSetLemmas.{distinct_more, lent_more, lent_step, lent_whole, twice}
use Rattle.pg_schema.proofs.rules.text_sets.set_of.Goals as goal

pub returns-then-not-is_new-clause-distinct : goal.returns-then-not-is_new-clause-distinct
returns-then-not-is_new-clause-distinct c =
    let texts : List (Bor (List ℕ)) = c.args.texts.now in
    let i : ℕ = c.loop-text.text-index in
    let d : Bor (List ℕ) = record { ref_ptr = (0, 0); now = [] } in
    let key : List ℕ = (get_or texts i d).now in
    let old : not (is_among (lent (take i texts)) key) ≡ false = ap not (sym (c.loop-text.invariant.held key)) ∙ (sym c.in_ok-is_new.ensures.added ∙ c.if-not-is_new.true) in
    sym (subst (λ ts. are_distinct ts ≡ false) (lent_whole texts i d c.loop-text-test.true) (twice (lent (take i texts)) (lent (drop (i + 1) texts)) key old))

pub loop-text-preserved : goal.loop-text-preserved
loop-text-preserved c =
    let texts : List (Bor (List ℕ)) = c.args.texts.now in
    let i : ℕ = c.loop-text.text-index in
    let d : Bor (List ℕ) = record { ref_ptr = (0, 0); now = [] } in
    let key : Bor (List ℕ) = get_or texts i d in
    let done : List (List ℕ) = lent (take i texts) in
    let step = lent_step texts i d c.loop-text-test.true in
    let new : not (is_among done key.now) ≡ true = ap not (sym (c.loop-text.invariant.held key.now)) ∙ (sym c.in_ok-is_new.ensures.added ∙ c.if-not-is_new.false) in
    record {
      distinct = subst (λ ts. are_distinct ts ≡ true) (sym step) (distinct_more done key.now c.loop-text.invariant.distinct new);
      held = subst (λ ts. IsLentSetOf ts c.insert.new.self) (sym step)
          (lent_more done key c.loop-text.set c.insert.new.self c.in_ok-is_new.ensures.updates c.loop-text.invariant.held);
    }
