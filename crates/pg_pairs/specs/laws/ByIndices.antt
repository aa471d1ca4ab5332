-- Pairs of types in order, and a lemma that the order tells pairs apart, which sets and maps of pairs rest on.
use Rattle.std.specs.Prelude.{◌≡◌, ℕ, nat_eq, nat_lt, Bool, true, false, ◌&&◌, cond}
use Rattle.std.specs.declared.cmp.Ordering.{Ordering}
use Rattle.std.specs.declared.cmp.Ordering.TheVariants.{Less, Equal, Greater}
use Rattle.std.specs.Ordering.{nat_cmp, ordering_then, is_eq}
use Rattle.std.proofs.Common.{eqb-true, ltb-true, refl, ap, ◌∙◌, arith}
use Rattle.pg_pairs.specs.declared.choices.choice.Pair.{Pair}
use Rattle.pg_pairs.specs.bounds.Covering.{same_pair}

-- by the first number, then by the second
abbrev pub by_indices : ℕ × ℕ → ℕ × ℕ → Ordering
by_indices a b = ordering_then (nat_cmp a.0 b.0) (nat_cmp a.1 b.1)

then_equal : (a b : ℕ) (o : Ordering) → is_eq (ordering_then (nat_cmp a b) o) ≡ (nat_eq a b && is_eq o)
then_equal a b o =
    of (nat_lt a b) (nat_eq a b)
    (λ less same. let below = ltb-true a b less in let is = eqb-true a b same in omega arith)
  where
    of : (l e : Bool) → (l ≡ true → e ≡ true → ⊥) →
        is_eq (ordering_then (cond l Less (cond e Equal Greater)) o) ≡ (e && is_eq o)
    of true true never = absurd (never refl refl)
    of true false never = refl
    of false true never = refl
    of false false never = refl

equal_is : (a b : ℕ) → is_eq (nat_cmp a b) ≡ nat_eq a b
equal_is a b =
    of (nat_lt a b) (nat_eq a b)
    (λ less same. let below = ltb-true a b less in let is = eqb-true a b same in omega arith)
  where
    of : (l e : Bool) → (l ≡ true → e ≡ true → ⊥) → is_eq (cond l Less (cond e Equal Greater)) ≡ e
    of true true never = absurd (never refl refl)
    of true false never = refl
    of false true never = refl
    of false false never = refl

-- pairs are equal in this order just where they are the same
pub equal_same : (p q : Pair) → is_eq (by_indices (p.old.index, p.new.index) (q.old.index, q.new.index)) ≡ same_pair p q
equal_same p q =
    then_equal p.old.index q.old.index (nat_cmp p.new.index q.new.index)
    ∙ ap (λ e. nat_eq p.old.index q.old.index && e) (equal_is p.new.index q.new.index)
