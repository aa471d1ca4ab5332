-- What scopes declare, scope by scope, is what is declared, one by one.
use Rattle.std.proofs.Common.{◌≡◌, ◌∙◌, ℕ, zero, suc, ◌+◌, ◌<◌, ◌≤◌, Bool, true, false, cond, not, nat_eq, nat_lt, ◌&&◌, List, [], ◌∷◌, length, sym, ap, refl, arith, rules}
use Rattle.std.specs.List.{list_all, AllByRecursion}
use Rattle.std.specs.Str.{bytes_eq}
use Rattle.std.proofs.lemmas.Bool.Decides.{nat_tests}
use Rattle.pg_schema.specs.rules.Pairs.{all_pairs}
use Rattle.pg_schema.specs.rules.Scopes.{are_each_once}
use Rattle.pg_schema.proofs.lemmas.rules.PairLemmas.{and_both}
use Rattle.pg_check.specs.parts.ByScope.{Placed, placed_from, places_in}
use Rattle.pg_check.proofs.lemmas.parts.Totals.{once_there, times, total, total_same, total_turned}

pub everywhere : {X : Type 0} (P : X → Type 0) (xs : List X) → ((x : X) → P x) → AllByRecursion P xs
everywhere P [] h = tt
everywhere P (x ∷ xs) h = (h x, everywhere P xs h)

places_total : (g : ℕ → ℕ) (s : List ℕ) (ps : List Placed) → total g (places_in s ps) ≡ total (λ (p : Placed). cond (bytes_eq s p.scope) (g p.index) 0) ps
places_total g s [] = refl
places_total g s (p ∷ ps) = search (rules, total, places_total g s ps)

all_once : (h : List ℕ → ℕ → ℕ) (ss : List (List ℕ)) (ps : List Placed) → AllByRecursion (λ (p : Placed). times p.scope ss ≡ 1) ps
    → AllByRecursion (λ (p : Placed). total (λ s. cond (bytes_eq s p.scope) (h s p.index) 0) ss ≡ h p.scope p.index) ps
all_once h ss [] k = tt
all_once h ss (p ∷ ps) k = (once_there (λ s. h s p.index) p.scope ss k.0, all_once h ss ps k.1)

-- where each scope is once among these
pub regrouped : (h : List ℕ → ℕ → ℕ) (ss : List (List ℕ)) (ps : List Placed) → AllByRecursion (λ (p : Placed). times p.scope ss ≡ 1) ps
    → total (λ s. total (h s) (places_in s ps)) ss ≡ total (λ (p : Placed). h p.scope p.index) ps
regrouped h ss ps once =
    total_same (λ s. total (h s) (places_in s ps)) (λ s. total (λ (p : Placed). cond (bytes_eq s p.scope) (h s p.index) 0) ps) ss (everywhere _ ss (λ s. places_total (h s) s ps))
    ∙ (total_turned (λ s (p : Placed). cond (bytes_eq s p.scope) (h s p.index) 0) ss ps
    ∙ total_same (λ (p : Placed). total (λ s. cond (bytes_eq s p.scope) (h s p.index) 0) ss) (λ (p : Placed). h p.scope p.index) ps (all_once h ss ps once))

-- ---- indexes from one on

-- so many numbers, from one on
abbrev pub count_from : ℕ → ℕ → List ℕ
count_from before zero = []
count_from before (suc n) = before ∷ count_from (before + 1) n

pub placed_total : (g : ℕ → ℕ) (before : ℕ) (ss : List (List ℕ)) → total (λ (p : Placed). g p.index) (placed_from before ss) ≡ total g (count_from before (length ss))
placed_total g before [] = refl
placed_total g before (s ∷ ss) = ap (λ n. g before + n) (placed_total g (before + 1) ss)

-- ---- each index once

abbrev as_one : Bool → ℕ
as_one true = 1
as_one false = 0

abbrev here : ℕ → ℕ → ℕ
here k n = as_one (nat_eq n k)

abbrev beyond : ℕ → ℕ → ℕ
beyond count n = as_one (not (nat_lt n count))

lengths : {X : Type 0} (xs : List X) → total (λ (x : X). 1) xs ≡ length xs
lengths [] = refl
lengths {X} (x ∷ xs) = let rest : total (λ (y : X). 1) xs ≡ length xs = lengths xs in omega (arith, rest)

counted : (before n : ℕ) → total (λ (k : ℕ). 1) (count_from before n) ≡ n
counted before zero = refl
counted before (suc n) = let rest : total (λ (k : ℕ). 1) (count_from (before + 1) n) ≡ n = counted (before + 1) n in omega (arith, rest)

none_beyond : (count before n : ℕ) → before + n ≤ count → total (beyond count) (count_from before n) ≡ 0
none_beyond count before zero h = refl
none_beyond count before (suc n) h =
    let rest : total (beyond count) (count_from (before + 1) n) ≡ 0 = none_beyond count (before + 1) n (omega (arith, h)) in
    let inside : before < count = omega (arith, h) in
    let first : beyond count before ≡ 0 = within before count inside in
    omega (arith, rest, first)
  where
    within : (a b : ℕ) → a < b → as_one (not (nat_lt a b)) ≡ 0
    within a b lt = search (rules, nat_lt, nat_tests)

above_none : (k before n : ℕ) → k < before → total (here k) (count_from before n) ≡ 0
above_none k before zero h = refl
above_none k before (suc n) h =
    let rest : total (here k) (count_from (before + 1) n) ≡ 0 = above_none k (before + 1) n (omega (arith, h)) in
    let first : here k before ≡ 0 = ap as_one (apart before k h) in
    omega (arith, rest, first)
  where
    apart : (a b : ℕ) → b < a → nat_eq a b ≡ false
    apart a b lt = grind (arith, nat_tests)

at_most_one : (k before n : ℕ) → total (here k) (count_from before n) ≤ 1
at_most_one k before zero = omega arith
at_most_one k before (suc n) = by (nat_eq before k) refl (at_most_one k (before + 1) n)
  where
    same : (a b : ℕ) → nat_eq a b ≡ true → b < a + 1
    same a b is = grind (arith, nat_tests)

    by : (b : Bool) → nat_eq before k ≡ b → total (here k) (count_from (before + 1) n) ≤ 1 → total (here k) (count_from before (suc n)) ≤ 1
    by true is rest = search (rules, above_none, same)
    by false is rest = let first : here k before ≡ 0 = ap as_one is in omega (arith, first, rest)

all_below : (count : ℕ) (places : List ℕ) → total (beyond count) places ≡ 0 → list_all (λ place. nat_lt place count) places ≡ true
all_below count [] h = refl
all_below count (p ∷ ps) h = by (nat_lt p count) refl (λ none. all_below count ps none)
  where
    by : (b : Bool) → nat_lt p count ≡ b → (total (beyond count) ps ≡ 0 → list_all (λ place. nat_lt place count) ps ≡ true) → (nat_lt p count && list_all (λ place. nat_lt place count) ps) ≡ true
    by true is next = and_both (nat_lt p count) (list_all (λ place. nat_lt place count) ps) is (next (omega (arith, h)))
    by false is next = let first : beyond count p ≡ 1 = ap (λ t. as_one (not t)) is in absurd (omega (arith, first, h))

absent : (k : ℕ) (places : List ℕ) → total (here k) places ≡ 0 → list_all (λ b. not (nat_eq k b)) places ≡ true
absent k [] h = refl
absent k (p ∷ ps) h = by (nat_eq p k) refl (λ none. absent k ps none)
  where
    turned : (a b : ℕ) → nat_eq a b ≡ false → not (nat_eq b a) ≡ true
    turned a b is = grind (arith, nat_tests)

    by : (b : Bool) → nat_eq p k ≡ b → (total (here k) ps ≡ 0 → list_all (λ b. not (nat_eq k b)) ps ≡ true) → (not (nat_eq k p) && list_all (λ b. not (nat_eq k b)) ps) ≡ true
    by true is next = let first : here k p ≡ 1 = ap as_one is in absurd (omega (arith, first, h))
    by false is next = and_both (not (nat_eq k p)) (list_all (λ b. not (nat_eq k b)) ps) (turned p k is) (next (omega (arith, h)))

all_apart : (places : List ℕ) → ((k : ℕ) → total (here k) places ≤ 1) → all_pairs (λ a b. not (nat_eq a b)) places ≡ true
all_apart [] h = refl
all_apart (p ∷ ps) h =
    let first : here p p ≡ 1 = ap as_one (same p) in
    let few : total (here p) (p ∷ ps) ≤ 1 = h p in
    and_both (list_all (λ b. not (nat_eq p b)) ps) (all_pairs (λ a b. not (nat_eq a b)) ps) (absent p ps (omega (arith, first, few)))
    (all_apart ps (λ k. let all : total (here k) (p ∷ ps) ≤ 1 = h k in omega (arith, all)))
  where
    same : (n : ℕ) → nat_eq n n ≡ true
    same n = grind (arith, nat_tests)

-- indexes that come to the same sums as so many numbers are there once each
pub each_once : (count : ℕ) (places : List ℕ) → ((g : ℕ → ℕ) → total g places ≡ total g (count_from 0 count)) → are_each_once count places ≡ true
each_once count places same =
    let long : length places ≡ count = sym (lengths places) ∙ (same (λ k. 1) ∙ counted 0 count) in
    let inside : total (beyond count) places ≡ 0 = same (beyond count) ∙ none_beyond count 0 count (omega arith) in
    and_both (nat_eq (length places) count && list_all (λ place. nat_lt place count) places) (all_pairs (λ a b. not (nat_eq a b)) places)
    (and_both (nat_eq (length places) count) (list_all (λ place. nat_lt place count) places) (equal (length places) count long) (all_below count places inside))
    (all_apart places (λ k. let is : total (here k) places ≡ total (here k) (count_from 0 count) = same (here k) in let few : total (here k) (count_from 0 count) ≤ 1 = at_most_one k 0 count in omega (arith, is, few)))
  where
    equal : (a b : ℕ) → a ≡ b → nat_eq a b ≡ true
    equal a b is = grind (arith, nat_tests)
