use Rattle.std.proofs.Common.{◌≡◌, ◌+◌, ◌-◌, ◌<◌, length, get_or, sym, subst, arith, add-one, ⊎_elim}
use Rattle.std.proofs.lemmas.Bool.{cases_eq}
use Rattle.pg_dyn.specs.declared.message_ref.EntryRef.{EntryRef}
use Rattle.pg_dyn.specs.message_ref.BorrowedItems.{key_of}
use Rattle.pg_dyn.specs.message.KeyOrder.{IsOfKind}
use Rattle.pg_dyn.proofs.lemmas.fitting.FitsSteps.{IsUnder, fact_at, rise_from, same_default}
use Rattle.pg_dyn.proofs.lemmas.reading.entries.LastOfKeys.{same_kind}
use Rattle.pg_dyn.proofs.reading.keys.keys_rise.Goals as goal

pub is_below-requires : goal.is_below-requires
is_below-requires c =
    let es = c.args.entries.now in
    let l = c.loop-next in
    let (kind, each) = c.requires in
    let first : l.next - 1 < length es = omega (arith, c.loop-next-test.true) in
    same_kind kind _ _ (fact_at (λ (e : EntryRef). IsOfKind kind (key_of e)) es (l.next - 1) c.index-entries-next.result first each)
    (fact_at (λ (e : EntryRef). IsOfKind kind (key_of e)) es l.next c.index-entries-next-in-loop-next.result c.loop-next-test.true each)

pub loop-next-preserved : goal.loop-next-preserved
loop-next-preserved c = λ k d e below.
    let l = c.loop-next in
    let es = c.args.entries.now in
    ⊎_elim
    (λ same.
    let back : l.next - 1 ≡ k = omega (arith, same) in
    let new : IsUnder key_of (get_or es (l.next - 1) c.index-entries-next.result) (get_or es l.next c.index-entries-next-in-loop-next.result) = c.is_below.ensures.0 c.if-not-is_below.false in
    let first = subst (λ x. IsUnder key_of x (get_or es l.next c.index-entries-next-in-loop-next.result)) (same_default es (l.next - 1) c.index-entries-next.result d (omega (arith, c.loop-next-test.true))) new in
    let both = subst (λ x. IsUnder key_of (get_or es (l.next - 1) d) x) (same_default es l.next c.index-entries-next-in-loop-next.result e c.loop-next-test.true) first in
    subst (λ i. IsUnder key_of (get_or es k d) (get_or es i e)) (sym same) (subst (λ i. IsUnder key_of (get_or es i d) (get_or es l.next e)) back both))
    (λ apart. l.invariant k d e (omega (arith, below, apart))) (cases_eq (k + 1) l.next)

pub returns : goal.returns
returns c =
    λ e. rise_from key_of c.args.entries.now
    (λ k d x inside. subst (λ i. IsUnder key_of (get_or c.args.entries.now k d) (get_or c.args.entries.now i x)) (add-one k)
    (c.loop-next.invariant k d x (omega (arith, c.loop-next-test.false))))
