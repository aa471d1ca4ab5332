-- Going over a table, pair by pair.
use Rattle.std.proofs.Common.{◌≡◌, ℕ, ◌+◌, List, [], ◌∷◌, drop, Option, Some, None, slice_get, zero, suc, refl, ap, sym, ◌∙◌, add-one}
use Rattle.std.specs.Option.{option_or}
use Rattle.pg_schema.specs.Shape.{Shape}
use Rattle.pg_pairs.specs.views.EnumView.{EnumView}
use Rattle.pg_pairs.specs.choices.Choices.{Table}
use Rattle.pg_cert.specs.declared.bounds.PairBound.{PairBound}
use Rattle.pg_cert.specs.declared.error.CertError.{CertError}
use Rattle.pg_cert.specs.Faults.{pair_fault, first_pair_fault}

drop_here : {X : Type 0} (xs : List X) (i : ℕ) (x : X) → slice_get xs i ≡ Some x → drop i xs ≡ x ∷ drop (suc i) xs
drop_here [] i x h = absurd (cc)
drop_here (y ∷ xs) zero x h = let same : y ≡ x = cc in ap (λ z. z ∷ xs) same
drop_here (y ∷ xs) (suc i) x h = drop_here xs i x h

drop_past : {X : Type 0} (xs : List X) (i : ℕ) → slice_get xs i ≡ None → drop i xs ≡ drop (suc i) xs
drop_past [] zero h = refl
drop_past [] (suc i) h = refl
drop_past (y ∷ xs) zero h = absurd (cc)
drop_past (y ∷ xs) (suc i) h = drop_past xs i h

pub next_from : {X : Type 0} (xs : List X) (i : ℕ) (x : X) → slice_get xs i ≡ Some x → drop i xs ≡ x ∷ drop (i + 1) xs
next_from xs i x h = drop_here xs i x h ∙ ap (λ n. x ∷ drop n xs) (sym (add-one i))

pub next_past : {X : Type 0} (xs : List X) (i : ℕ) → slice_get xs i ≡ None → drop i xs ≡ drop (i + 1) xs
next_past xs i h = drop_past xs i h ∙ ap (λ n. drop n xs) (sym (add-one i))

module _ (enum_view : EnumView) (old new : Shape) (table : Table) (bounds : List PairBound) (at : ℕ) where
  -- the fault of the pair at the index, where it has one, is the first of those that are left
  pub fault_here : (b : PairBound) (e : CertError) → slice_get bounds at ≡ Some b → pair_fault enum_view old new table b ≡ Some e → first_pair_fault enum_view old new table (drop at bounds) ≡ Some e
  fault_here b e found fault = ap (first_pair_fault enum_view old new table) (next_from bounds at b found) ∙ ap (λ o. option_or o (first_pair_fault enum_view old new table (drop (at + 1) bounds))) fault

  pub no_fault_here : (b : PairBound) → slice_get bounds at ≡ Some b → pair_fault enum_view old new table b ≡ None → first_pair_fault enum_view old new table (drop at bounds) ≡ first_pair_fault enum_view old new table (drop (at + 1) bounds)
  no_fault_here b found fault = ap (first_pair_fault enum_view old new table) (next_from bounds at b found) ∙ ap (λ o. option_or o (first_pair_fault enum_view old new table (drop (at + 1) bounds))) fault

  pub no_pair_here : slice_get bounds at ≡ None → first_pair_fault enum_view old new table (drop at bounds) ≡ first_pair_fault enum_view old new table (drop (at + 1) bounds)
  no_pair_here found = ap (first_pair_fault enum_view old new table) (next_past bounds at found)

pub none_is : {A : Type 0} (o : Option A) → ((x : A) → o ≡ Some x → ⊥) → o ≡ None
none_is None h = refl
none_is (Some x) h = absurd (h x refl)
