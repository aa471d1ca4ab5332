-- A table without numbers: each pair is there once.
use Rattle.std.proofs.Common.{◌≡◌, List, [], ◌∷◌, map, filter, Bool, true, false, not, None, refl, subst}
use Rattle.pg_pairs.specs.declared.choices.choice.Pair.{Pair}
use Rattle.pg_pairs.specs.bounds.Covering.{same_pair, distinct}
use Rattle.pg_cert.specs.declared.bounds.PairBound.{PairBound}
use Rattle.pg_cert.specs.Certificate.{bound_in, are_bounds}
use Rattle.pg_least.proofs.Listed.{first_once}

abbrev pub unbounded : Pair → PairBound
unbounded pair = record { pair = pair; bound = None }

-- a pair that isn't in a list isn't in a part of it
absent_filter : (test : Pair → Bool) (p : Pair) (qs : List Pair) → bound_in (map unbounded qs) p ≡ None → bound_in (map unbounded (filter test qs)) p ≡ None
absent_filter test p [] h = refl
absent_filter test p (q ∷ qs) h = of (same_pair p q) (test q) refl refl (absent_filter test p qs)
  where
    of : (s t : Bool) → same_pair p q ≡ s → test q ≡ t → (bound_in (map unbounded qs) p ≡ None → bound_in (map unbounded (filter test qs)) p ≡ None) → bound_in (map unbounded (filter test (q ∷ qs))) p ≡ None
    of true t is is_t later = absurd (let there = rw is at h in cc)
    of false true is is_t later = rw (is_t, is) (later (rw is at h))
    of false false is is_t later = rw is_t (later (rw is at h))

dropped : (p : Pair) (qs : List Pair) → bound_in (map unbounded (filter (λ q. not (same_pair p q)) qs)) p ≡ None
dropped p [] = refl
dropped p (q ∷ qs) = of (same_pair p q) refl (dropped p qs)
  where
    of : (s : Bool) → same_pair p q ≡ s → bound_in (map unbounded (filter (λ x. not (same_pair p x)) qs)) p ≡ None → bound_in (map unbounded (filter (λ x. not (same_pair p x)) (q ∷ qs))) p ≡ None
    of true is later = rw is later
    of false is later = rw (is, is) later

bounds_filter : (test : Pair → Bool) (qs : List Pair) → are_bounds (map unbounded qs) ≡ true → are_bounds (map unbounded (filter test qs)) ≡ true
bounds_filter test [] h = refl
bounds_filter test (q ∷ qs) h =
    let (absent, rest) = first_once (unbounded q) (map unbounded qs) h in
    of (test q) refl (absent_filter test q qs absent) (bounds_filter test qs rest)
  where
    of : (t : Bool) → test q ≡ t → bound_in (map unbounded (filter test qs)) q ≡ None → are_bounds (map unbounded (filter test qs)) ≡ true → are_bounds (map unbounded (filter test (q ∷ qs))) ≡ true
    of true is absent later = rw (is, absent, later) refl
    of false is absent later = rw is later

distinct_bounds : (ps : List Pair) → are_bounds (map unbounded (distinct ps)) ≡ true
distinct_bounds [] = refl
distinct_bounds (p ∷ ps) = rw (dropped p (distinct ps), bounds_filter (λ q. not (same_pair p q)) (distinct ps) (distinct_bounds ps)) refl

pub once_bounds : (ps : List Pair) → distinct ps ≡ ps → are_bounds (map unbounded ps) ≡ true
once_bounds ps once = subst (λ qs. are_bounds (map unbounded qs) ≡ true) once (distinct_bounds ps)
