-- A table of least costs is exact.
use Rattle.std.proofs.Common.{◌≡◌, ℕ, zero, suc, ◌<◌, Option, Some, refl, subst, arith}
use Rattle.pg_schema.specs.Shape.{Shape}
use Rattle.pg_pairs.specs.declared.choices.choice.Pair.{Pair}
use Rattle.pg_pairs.specs.views.EnumView.{EnumView}
use Rattle.pg_pairs.specs.choices.Choices.{Table}
use Rattle.pg_pairs.specs.bounds.Laws.{IsReached, ChoicesReached, ExactIsLeast}
use Rattle.pg_pairs.specs.bounds.Covering.{IsExact}
use Rattle.pg_pairs.proofs.lemmas.bounds.LowerBound.{each_bounded_by}
use Rattle.pg_pairs.proofs.lemmas.witness.Reached.{choices_reached}

-- what holds of all numbers below holds of all
below_all : (P : ℕ → Type 0) → ((n : ℕ) → ((m : ℕ) → m < n → P m) → P n) → (n : ℕ) (m : ℕ) → m < n → P m
below_all P step zero m h = absurd (omega arith)
below_all P step (suc n) m h = step m (λ k lt. below_all P step n k (omega arith))

strong : (P : ℕ → Type 0) → ((n : ℕ) → ((m : ℕ) → m < n → P m) → P n) → (n : ℕ) → P n
strong P step n = below_all P step (suc n) n (omega arith)

module _ (enum_view : EnumView) (old new : Shape) (table : Table) (exact : (pair : Pair) (bound : Option ℕ) → table pair ≡ Some bound → IsExact enum_view old new table pair bound) (reaches : ChoicesReached enum_view old new table) where
  -- by induction on the bound, since a choice through a child costs more than the child's bound
  reached : (n : ℕ) (p : Pair) → table p ≡ Some (Some n) → IsReached enum_view old new p n
  reached =
      strong (λ n. (p : Pair) → table p ≡ Some (Some n) → IsReached enum_view old new p n)
      (λ n smaller p e.
      let (c, among, cost) = (exact p (Some n) e).chosen n refl in
      subst (IsReached enum_view old new p) cost (reaches p c among (λ q y is below. smaller y (omega arith) q is)))

pub exact_is_least : ExactIsLeast
exact_is_least enum_view old new table law shape_old shape_new exact pair x there =
    let (v, (breaks, length_is)) = reached enum_view old new table exact (choices_reached enum_view old new table law shape_old shape_new) x pair there in
    record {
      message = v;
      breaks = breaks;
      length_is = length_is;
      least = λ w broken. each_bounded_by enum_view law old new shape_old shape_new table (λ p bound e. (exact p bound e).covered) pair (Some x) there w broken;
    }
