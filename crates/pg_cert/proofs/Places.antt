-- Indices that are there once each, and as many as there are, are all indices.
use Rattle.std.proofs.Common.{◌≡◌, ℕ, ◌<◌, Bool, true, false, not, ◌&&◌, ◌||◌, nat_eq, nat_lt, eqb, List, [], ◌∷◌, length, refl, arith}
use Rattle.std.specs.List.{AllByRecursion, IsDistinct, list_all, list_any}
use Rattle.std.proofs.lemmas.Bool.{and_parts, or_parts, ltb-true, eqb-true}
use Rattle.std.proofs.lemmas.Map.Keys.{IsDistinct-cons}
use Rattle.std.proofs.lemmas.Map.Steps.{length-le_from_distinct_below}
use Rattle.pg_schema.specs.rules.Pairs.{all_pairs}
use Rattle.pg_schema.specs.rules.Scopes.{are_each_once}

was_false : (b : Bool) → not b ≡ true → b ≡ false
was_false false h = refl
was_false true h = absurd (cc)

apart : (x : ℕ) (xs : List ℕ) → list_all (λ y. not (nat_eq x y)) xs ≡ true → AllByRecursion (λ y. eqb x y ≡ false) xs
apart x [] h = tt
apart x (y ∷ xs) h =
    let parts = and_parts (not (nat_eq x y)) (list_all (λ z. not (nat_eq x z)) xs) h in
    (was_false (nat_eq x y) parts.0, apart x xs parts.1)

distinct : (xs : List ℕ) → all_pairs (λ a b. not (nat_eq a b)) xs ≡ true → IsDistinct eqb xs
unfolding IsDistinct
distinct [] h = tt
distinct (x ∷ xs) h =
    let parts = and_parts (list_all (λ y. not (nat_eq x y)) xs) (all_pairs (λ a b. not (nat_eq a b)) xs) h in
    (apart x xs parts.0, distinct xs parts.1)

absent : (x : ℕ) (xs : List ℕ) → list_any (nat_eq x) xs ≡ false → AllByRecursion (λ y. eqb x y ≡ false) xs
absent x [] h = tt
absent x (y ∷ xs) h =
    let parts = or_parts (nat_eq x y) (list_any (nat_eq x) xs) h in
    (parts.0, absent x xs parts.1)

-- what holds of all holds of one that is among them
below : (n : ℕ) (xs : List ℕ) → list_all (λ x. nat_lt x n) xs ≡ true → (q : ℕ) → list_any (eqb q) xs ≡ true → q < n
below n [] h q there = absurd (cc)
below n (x ∷ xs) h q there = of (eqb q x) refl there (λ k. below n xs parts.1 q k)
  where
    parts : (nat_lt x n ≡ true) × (list_all (λ y. nat_lt y n) xs ≡ true)
    parts = and_parts (nat_lt x n) (list_all (λ y. nat_lt y n) xs) h

    of : (b : Bool) → eqb q x ≡ b → (b || list_any (eqb q) xs) ≡ true → (list_any (eqb q) xs ≡ true → q < n) → q < n
    of true e k later = let same = eqb-true q x e in let low = ltb-true x n parts.0 in omega arith
    of false e k later = later k

below_more : (n k : ℕ) (xs : List ℕ) → k < n → list_all (λ x. nat_lt x n) xs ≡ true → (q : ℕ) → list_any (eqb q) (k ∷ xs) ≡ true → q < n
below_more n k xs low h q there = of (eqb q k) refl there
  where
    of : (b : Bool) → eqb q k ≡ b → (b || list_any (eqb q) xs) ≡ true → q < n
    of true e is = let same = eqb-true q k e in omega arith
    of false e is = below n xs h q is

pub each_place : (count : ℕ) (places : List ℕ) → are_each_once count places ≡ true → (k : ℕ) → k < count → list_any (nat_eq k) places ≡ true
each_place count places h k low = of (list_any (nat_eq k) places) refl
  where
    fronts : (nat_eq (length places) count && list_all (λ place. nat_lt place count) places ≡ true) × (all_pairs (λ a b. not (nat_eq a b)) places ≡ true)
    fronts = and_parts (nat_eq (length places) count && list_all (λ place. nat_lt place count) places) (all_pairs (λ a b. not (nat_eq a b)) places) h

    parts : (nat_eq (length places) count ≡ true) × (list_all (λ place. nat_lt place count) places ≡ true)
    parts = and_parts (nat_eq (length places) count) (list_all (λ place. nat_lt place count) places) fronts.0

    of : (b : Bool) → list_any (nat_eq k) places ≡ b → b ≡ true
    of true e = refl
    of false e =
        absurd (let many = length-le_from_distinct_below (k ∷ places) count (IsDistinct-cons eqb k places (absent k places e) (distinct places fronts.1)) (below_more count k places low parts.1) in let as_many = eqb-true (length places) count parts.0 in omega arith)
