-- Indices that occur once each in a list, as many as there are.
use Rattle.std.proofs.Common.{◌≡◌, ◌⊎◌, inl, inr, ℕ, zero, suc, ◌<◌, ◌≤◌, Bool, true, false, not, ◌&&◌, ◌||◌, nat_eq, nat_lt, eqb, List, [], ◌∷◌, ◌++◌, flat_map, length, Some, slice_get, refl, sym, subst, arith, rules}
use Rattle.std.proofs.lemmas.Bool.{and_parts, or_parts, ltb-true, eqb-true, false≢true}
use Rattle.std.proofs.lemmas.List.Folds.{list_any-append}
use Rattle.std.proofs.lemmas.Map.Keys.{IsDistinct-cons}
use Rattle.std.proofs.lemmas.Map.Steps.{length-le_from_distinct_below}
use Rattle.std.specs.List.{AllByRecursion, IsDistinct, list_all, list_any}
use Rattle.pg_schema.specs.rules.Pairs.{all_pairs}
use Rattle.pg_schema.specs.rules.Scopes.{are_each_once}
use Rattle.pg_set.proofs.lemmas.lists.Tests.{not_so}

-- ---- an index that is among others

abbrev pub IsAmong : ℕ → List ℕ → Type 0
IsAmong k places = list_any (nat_eq k) places ≡ true

-- what holds of all indices holds of one that is among them
pub among : (P : ℕ → Type 0) (k : ℕ) (places : List ℕ) → AllByRecursion P places → IsAmong k places → P k
among P k [] all there = absurd (false≢true there)
among P k (place ∷ places) all there = of (nat_eq k place) refl there (λ later. among P k places all.1 later)
  where
    of : (b : Bool) → nat_eq k place ≡ b → (b || list_any (nat_eq k) places) ≡ true → (IsAmong k places → P k) → P k
    of true same is later = subst P (sym (eqb-true k place same)) all.0
    of false other is later = later is

pub among_either : (k : ℕ) (xs ys : List ℕ) → IsAmong k (xs ++ ys) → IsAmong k xs ⊎ IsAmong k ys
among_either k xs ys there = search (rules, list_any-append)

-- an item among whose indices it is
pub record Lists {A : Type 0} (places : A → List ℕ) (k : ℕ) (xs : List A) : Type 0 where
  pub at : ℕ
  pub item : A
  pub there : slice_get xs at ≡ Some item
  pub among : IsAmong k (places item)

pub lists : {A : Type 0} (places : A → List ℕ) (k : ℕ) (xs : List A) → IsAmong k (flat_map places xs) → Lists places k xs
lists places k [] there = absurd (false≢true there)
lists places k (x ∷ xs) there =
    of (among_either k (places x) (flat_map places xs) there) (λ is. lists places k xs is)
  where
    of : IsAmong k (places x) ⊎ IsAmong k (flat_map places xs) → (IsAmong k (flat_map places xs) → Lists places k xs) → Lists places k (x ∷ xs)
    of (inl here) later = record { at = zero; item = x; there = refl; among = here }
    of (inr is) later = let found = later is in record { at = suc found.at; item = found.item; there = found.there; among = found.among }

-- ---- each once

apart : (x : ℕ) (xs : List ℕ) → list_all (λ y. not (nat_eq x y)) xs ≡ true → AllByRecursion (λ y. eqb x y ≡ false) xs
apart x [] all = tt
apart x (y ∷ xs) all =
    let both = and_parts (not (nat_eq x y)) (list_all (λ z. not (nat_eq x z)) xs) all in
    (not_so (nat_eq x y) both.0, apart x xs both.1)

distinct : (xs : List ℕ) → all_pairs (λ a b. not (nat_eq a b)) xs ≡ true → IsDistinct eqb xs
unfolding IsDistinct
distinct [] all = tt
distinct (x ∷ xs) all =
    let both = and_parts (list_all (λ y. not (nat_eq x y)) xs) (all_pairs (λ a b. not (nat_eq a b)) xs) all in
    (apart x xs both.0, distinct xs both.1)

absent : (x : ℕ) (xs : List ℕ) → list_any (nat_eq x) xs ≡ false → AllByRecursion (λ y. eqb x y ≡ false) xs
absent x [] none = tt
absent x (y ∷ xs) none =
    let both = or_parts (nat_eq x y) (list_any (nat_eq x) xs) none in
    (both.0, absent x xs both.1)

all_below : (count : ℕ) (xs : List ℕ) → list_all (λ x. nat_lt x count) xs ≡ true → AllByRecursion (λ x. x < count) xs
all_below count [] all = tt
all_below count (x ∷ xs) all =
    let both = and_parts (nat_lt x count) (list_all (λ y. nat_lt y count) xs) all in
    (ltb-true x count both.0, all_below count xs both.1)

module _ (count : ℕ) (places : List ℕ) (once : are_each_once count places ≡ true) where
  front : nat_eq (length places) count && list_all (λ place. nat_lt place count) places ≡ true
  front = (and_parts (nat_eq (length places) count && list_all (λ place. nat_lt place count) places) (all_pairs (λ a b. not (nat_eq a b)) places) once).0

  are_distinct : IsDistinct eqb places
  are_distinct = search (rules, distinct, and_parts)

  as_many : length places ≡ count
  as_many = eqb-true (length places) count (and_parts (nat_eq (length places) count) (list_all (λ place. nat_lt place count) places) front).0

  are_below : AllByRecursion (λ place. place < count) places
  are_below = all_below count places (and_parts (nat_eq (length places) count) (list_all (λ place. nat_lt place count) places) front).1

  -- each index below the count is among them
  pub each_place : (k : ℕ) → k < count → IsAmong k places
  each_place k low = of (list_any (nat_eq k) places) refl
    where
      of : (b : Bool) → list_any (nat_eq k) places ≡ b → b ≡ true
      of true is = refl
      of false none =
          let many =
          length-le_from_distinct_below (k ∷ places) count (IsDistinct-cons eqb k places (absent k places none) are_distinct)
          (λ q there. among (λ place. place < count) q (k ∷ places) (low, are_below) there) in
          absurd (omega (arith, many, as_many))

  -- they are no more than there are numbers below a bound of them all
  pub at_most : (bound : ℕ) → AllByRecursion (λ place. place < bound) places → count ≤ bound
  at_most bound all = search (rules, length-le_from_distinct_below, are_distinct, among, as_many)
