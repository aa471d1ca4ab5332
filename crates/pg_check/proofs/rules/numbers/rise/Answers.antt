use Rattle.std.proofs.Common.{◌≡◌, ◌∙◌, ◌<◌, ◌+◌, ◌∷◌, ◌||◌, [], ℕ, Bool, List, false, true, nat_eq, take, get_or, length, arith, ap, refl}
use Rattle.std.specs.List.{list_any}
use Rattle.std.proofs.lemmas.Bool.Decides.{nat_tests}
use Rattle.std.proofs.lemmas.List.Folds.{list_any-append}
use Rattle.pg_check.specs.declared.rules.numbers.Keyed.{Keyed}
use Rattle.pg_check.specs.inner.NumberFaults.{at}
use Rattle.pg_check.specs.rules.Numbers.{is_same}
use Rattle.pg_check.proofs.lemmas.rules.FirstLaws.{again_more, take_item}
use Rattle.pg_check.proofs.rules.numbers.rise.Goals as goal

apart : (m n : ℕ) → n < m → nat_eq m n ≡ false
apart m n h = grind (arith, nat_tests)

neither : (a b : Bool) → a ≡ false → b ≡ false → (a || b) ≡ false
neither false b none other = other
neither true b none other = absurd (cc (none))

-- a number above the last is none of those up to it
above_more : (keys : List Keyed) (i : ℕ) (d : Keyed) (q : ℕ) → i < length keys → (get_or keys i d).key < q
    → list_any (λ (k : Keyed). nat_eq q k.key) (take i keys) ≡ false → list_any (λ (k : Keyed). nat_eq q k.key) (take (i + 1) keys) ≡ false
above_more keys i d q h above before =
    ap (list_any (λ (k : Keyed). nat_eq q k.key)) (take_item keys i d h)
    ∙ (list_any-append (λ (k : Keyed). nat_eq q k.key) (take i keys) (get_or keys i d ∷ [])
    ∙ neither _ _ before (neither _ false (apart q (get_or keys i d).key above) refl))

pub loop-one-preserved : goal.loop-one-preserved
loop-one-preserved c =
    let d : Keyed = record { key = 0; at = 0 } in
    let x : Keyed = get_or c.args.keys.now c.loop-one.one-index d in
    let below : c.loop-one.below < x.key = c.if-one-below.false in
    record {
      above = λ q more. above_more c.args.keys.now c.loop-one.one-index d q c.loop-one-test.true more (c.loop-one.invariant.above q (omega (arith, below, more)));
      left = again_more is_same at c.args.keys.now c.loop-one.one-index d _ c.loop-one-test.true (c.loop-one.invariant.above x.key below) c.loop-one.invariant.left;
    }
