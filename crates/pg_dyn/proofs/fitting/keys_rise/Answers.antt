use Rattle.std.proofs.Common.{◌≡◌, suc, ◌+◌, ◌-◌, get_or, refl, sym, subst, ◌∙◌, true≢false, arith, add-one, ⊎_elim}
use Rattle.std.proofs.lemmas.Bool.{cases_eq}
use Rattle.pg_dyn.proofs.lemmas.fitting.FitsSteps.{IsBelow, rises_from, adjacent, same_default, key_at}
use Rattle.pg_dyn.proofs.fitting.keys_rise.Goals as goal

pub is_below-requires-clause-first : goal.is_below-requires-clause-first
is_below-requires-clause-first c = key_at c.args.entries.now (c.loop-next.next - 1) c.index-entries-next.result (omega (arith, c.loop-next-test.true)) c.requires

pub is_below-requires-clause-second : goal.is_below-requires-clause-second
is_below-requires-clause-second c = key_at c.args.entries.now c.loop-next.next c.index-entries-next-in-loop-next.result (omega (arith, c.loop-next-test.true)) c.requires

pub returns-then-not-is_below : goal.returns-then-not-is_below
returns-then-not-is_below c = (
  (λ e. absurd (true≢false (sym e))),
  λ h.
      let l = c.loop-next in
      let next : suc (l.next - 1) ≡ l.next = omega (arith, l.auto.next) in
      let low = adjacent c.args.entries.now (l.next - 1) c.index-entries-next.result c.index-entries-next-in-loop-next.result (omega (arith, c.loop-next-test.true, l.auto.next)) h in
      let here = subst (λ i. IsBelow (get_or c.args.entries.now (l.next - 1) c.index-entries-next.result) (get_or c.args.entries.now i c.index-entries-next-in-loop-next.result)) next low in
      absurd (true≢false (sym (c.is_below.ensures.1 here) ∙ c.if-not-is_below.true)),
)

pub loop-next-preserved : goal.loop-next-preserved
loop-next-preserved c = λ k d e below.
    let l = c.loop-next in
    let es = c.args.entries.now in
    ⊎_elim
    (λ same.
    let back : l.next - 1 ≡ k = omega (arith, same) in
    let new : IsBelow (get_or es (l.next - 1) c.index-entries-next.result) (get_or es l.next c.index-entries-next-in-loop-next.result) = c.is_below.ensures.0 c.if-not-is_below.false in
    let first = subst (λ x. IsBelow x (get_or es l.next c.index-entries-next-in-loop-next.result)) (same_default es (l.next - 1) c.index-entries-next.result d (omega (arith, c.loop-next-test.true))) new in
    let both = subst (λ x. IsBelow (get_or es (l.next - 1) d) x) (same_default es l.next c.index-entries-next-in-loop-next.result e c.loop-next-test.true) first in
    subst (λ i. IsBelow (get_or es k d) (get_or es i e)) (sym same) (subst (λ i. IsBelow (get_or es i d) (get_or es l.next e)) back both))
    (λ apart. l.invariant k d e (omega (arith, below, apart))) (cases_eq (k + 1) l.next)

pub returns : goal.returns
returns c = ((λ e. rises_from c.args.entries.now (λ k d x inside. subst (λ i. IsBelow (get_or c.args.entries.now k d) (get_or c.args.entries.now i x)) (add-one k) (c.loop-next.invariant k d x (omega (arith, c.loop-next-test.false))))), λ h. refl)
