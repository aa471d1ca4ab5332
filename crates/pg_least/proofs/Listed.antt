-- Tables as lists: what is at an index is found, and what is found is at one.
use Rattle.std.proofs.Common.{◌≡◌, ℕ, zero, suc, List, [], ◌∷◌, slice_get, Bool, true, false, not, ◌&&◌, cond, find, is_some, option_map, Option, Some, None, inl, inr, ⊎_elim, refl, sym, subst}
use Rattle.std.proofs.lemmas.Bool.{and_parts}
use Rattle.pg_pairs.specs.laws.EdgeChildren.{same_pair-true}
use Rattle.pg_pairs.specs.declared.choices.choice.Pair.{Pair}
use Rattle.pg_pairs.specs.bounds.Covering.{IsAmong, same_pair}
use Rattle.pg_cert.proofs.Tables.{same_pair-refl}
use Rattle.pg_cert.specs.declared.bounds.PairBound.{PairBound}
use Rattle.pg_cert.specs.Certificate.{are_bounds, bound_in, is_bound}
use Rattle.pg_least.specs.Searched.{pairs_of}

not_some : {A : Type 0} (o : Option A) → not (is_some o) ≡ true → o ≡ None
not_some None h = refl
not_some (Some x) h = absurd (cc)

-- of a list's first pair no other one is the same
pub first_once : (b : PairBound) (bounds : List PairBound) → are_bounds (b ∷ bounds) ≡ true → (bound_in bounds b.pair ≡ None) × (are_bounds bounds ≡ true)
first_once b bounds h =
    let parts = and_parts (is_bound b.bound && not (is_some (bound_in bounds b.pair))) (are_bounds bounds) h in
    (not_some (bound_in bounds b.pair) (and_parts (is_bound b.bound) (not (is_some (bound_in bounds b.pair))) parts.0).1, parts.1)

-- what is at an index is found
pub found_at : (bounds : List PairBound) (at : ℕ) (b : PairBound) → are_bounds bounds ≡ true → slice_get bounds at ≡ Some b → bound_in bounds b.pair ≡ Some b.bound
found_at [] at b h here = absurd (cc)
found_at (x ∷ bounds) zero b h here = let same : x ≡ b = cc in subst (λ y. bound_in (x ∷ bounds) y.pair ≡ Some y.bound) same (rw (same_pair-refl x.pair) refl)
found_at (x ∷ bounds) (suc at) b h here = of (same_pair b.pair x.pair) refl (found_at bounds at b (first_once x bounds h).1 here)
  where
    of : (t : Bool) → same_pair b.pair x.pair ≡ t → bound_in bounds b.pair ≡ Some b.bound → bound_in (x ∷ bounds) b.pair ≡ Some b.bound
    of false apart later = rw apart later
    of true same later = absurd (let none : bound_in bounds b.pair ≡ None = subst (λ p. bound_in bounds p ≡ None) (sym (same_pair-true b.pair x.pair same)) (first_once x bounds h).0 in cc)

-- what is found is at an index
pub place_of : (bounds : List PairBound) (p : Pair) (bound : Option ℕ) → bound_in bounds p ≡ Some bound → (at : ℕ) × (slice_get bounds at ≡ Some (record { pair = p; bound = bound }))
place_of [] p bound h = absurd (cc)
place_of (b ∷ bounds) p bound h =
    elim (same_pair p b.pair) as (λ t. same_pair p b.pair ≡ t → option_map (λ (x : PairBound). x.bound) (cond t (Some b) (find (λ (x : PairBound). same_pair p x.pair) bounds)) ≡ Some bound → (at : ℕ) × (slice_get (b ∷ bounds) at ≡ Some (record { pair = p; bound = bound }))) [
      | true ↦ λ same k.
          let pair_is : b.pair ≡ p = sym (same_pair-true p b.pair same) in
          let bound_is : b.bound ≡ bound = cc in
          (0, λ j. Some (record { pair = pair_is j; bound = bound_is j }))
      | false ↦ λ apart k. let (at, here) = place_of bounds p bound k in (suc at, here)
    ] refl h

pub among_found : (bounds : List PairBound) (p : Pair) (bound : Option ℕ) → bound_in bounds p ≡ Some bound → IsAmong p (pairs_of bounds)
among_found [] p bound h = absurd (cc)
among_found (b ∷ bounds) p bound h =
    elim (same_pair p b.pair) as (λ t. same_pair p b.pair ≡ t → option_map (λ (x : PairBound). x.bound) (cond t (Some b) (find (λ (x : PairBound). same_pair p x.pair) bounds)) ≡ Some bound → IsAmong p (pairs_of (b ∷ bounds)))
    [ true ↦ λ same k. inl (same_pair-true p b.pair same) | false ↦ λ apart k. inr (among_found bounds p bound k) ] refl h

pub there_among : (bounds : List PairBound) (p : Pair) → IsAmong p (pairs_of bounds) → is_some (bound_in bounds p) ≡ true
there_among [] p h = absurd h
there_among (b ∷ bounds) p h =
    ⊎_elim (λ same. subst (λ q. is_some (bound_in (b ∷ bounds) q) ≡ true) (sym same) (rw (same_pair-refl b.pair) refl))
    (λ later.
    let rest = there_among bounds p later in
    elim (same_pair p b.pair) as (λ t. is_some (option_map (λ (x : PairBound). x.bound) (cond t (Some b) (find (λ (x : PairBound). same_pair p x.pair) bounds))) ≡ true) [ true ↦ refl | false ↦ rest ])
    h
