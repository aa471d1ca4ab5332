-- How often a name occurs in a list. Lists in which each name occurs as often have the same names, in another order.
use Rattle.std.proofs.Common.{◌≡◌, ℕ, suc, ◌+◌, ◌≤◌, Bool, true, false, cond, not, ◌&&◌, List, [], ◌∷◌, ◌++◌, refl, ap, sym, ◌∙◌, arith}
use Rattle.std.proofs.lemmas.Bool.{false≢true}
use Rattle.std.proofs.lemmas.Slice.Eq.{bytes_eq-Decides}
use Rattle.std.specs.List.{list_all}
use Rattle.std.specs.Str.{bytes_eq}
use Rattle.pg_schema.specs.rules.Pairs.{are_distinct, differ}
use Rattle.pg_schema.proofs.lemmas.rules.PairLemmas.{and_both, and_left, and_right}

abbrev pub count : List ℕ → List (List ℕ) → ℕ
count n [] = 0
count n (x ∷ xs) = cond (bytes_eq n x) 1 0 + count n xs

pub count_append : (n : List ℕ) (xs ys : List (List ℕ)) → count n (xs ++ ys) ≡ count n xs + count n ys
count_append n [] ys = omega arith
count_append n (x ∷ xs) ys = omega (arith, count_append n xs ys)

-- ---- what holds of each name

never_fails : (test : List ℕ → Bool) (n : List ℕ) → test n ≡ false → (ys : List (List ℕ)) → list_all test ys ≡ true → count n ys ≡ 0
never_fails test n fails [] all = refl
never_fails test n fails (y ∷ ys) all = of (bytes_eq n y) refl (never_fails test n fails ys (and_right (test y) (list_all test ys) all))
  where
    of : (b : Bool) → bytes_eq n y ≡ b → count n ys ≡ 0 → cond b 1 0 + count n ys ≡ 0
    of true same later = absurd (false≢true (sym fails ∙ (ap test ((bytes_eq-Decides n y).0 same) ∙ and_left (test y) (list_all test ys) all)))
    of false other later = omega (arith, later)

counted_itself : (x : List ℕ) (xs : List (List ℕ)) → count x (x ∷ xs) ≡ suc (count x xs)
counted_itself x xs = ap (λ b. cond b 1 0 + count x xs) ((bytes_eq-Decides x x).1 refl) ∙ omega arith

none_fails : (test : List ℕ → Bool) (xs : List (List ℕ)) → ((n : List ℕ) → test n ≡ false → count n xs ≡ 0) → list_all test xs ≡ true
none_fails test [] none = refl
none_fails test (x ∷ xs) none = of (test x) refl (none_fails test xs (λ n fails. later n (none n fails)))
  where
    later : (n : List ℕ) → count n (x ∷ xs) ≡ 0 → count n xs ≡ 0
    later n is = omega (arith, is)

    of : (b : Bool) → test x ≡ b → list_all test xs ≡ true → (b && list_all test xs) ≡ true
    of true is all = all
    of false fails all = absurd (omega (arith, counted_itself x xs, none x fails))

-- what holds of all of one list holds of all of another in which no name occurs more often
pub all_counted : (test : List ℕ → Bool) (xs ys : List (List ℕ)) → ((n : List ℕ) → count n xs ≡ count n ys) → list_all test ys ≡ true → list_all test xs ≡ true
all_counted test xs ys same all = none_fails test xs (λ n fails. same n ∙ never_fails test n fails ys all)

-- ---- names that occur once

differ_none : (n : List ℕ) (xs : List (List ℕ)) → list_all (differ n) xs ≡ true → count n xs ≡ 0
differ_none n xs all = never_fails (differ n) n (ap not ((bytes_eq-Decides n n).1 refl)) xs all

none_differ : (n : List ℕ) (xs : List (List ℕ)) → count n xs ≡ 0 → list_all (differ n) xs ≡ true
none_differ n [] none = refl
none_differ n (x ∷ xs) none = of (bytes_eq n x) none (λ is. none_differ n xs is)
  where
    of : (b : Bool) → cond b 1 0 + count n xs ≡ 0 → (count n xs ≡ 0 → list_all (differ n) xs ≡ true) → (not b && list_all (differ n) xs) ≡ true
    of true none later = absurd (omega (arith, none))
    of false none later = later (omega (arith, none))

pub at_most_once : (n : List ℕ) (xs : List (List ℕ)) → are_distinct xs ≡ true → count n xs ≤ 1
at_most_once n [] once = omega arith
at_most_once n (x ∷ xs) once = of (bytes_eq n x) refl (at_most_once n xs (and_right (list_all (differ x) xs) (are_distinct xs) once))
  where
    of : (b : Bool) → bytes_eq n x ≡ b → count n xs ≤ 1 → cond b 1 0 + count n xs ≤ 1
    of true same later =
        let none : count n xs ≡ 0 = ap (λ m. count m xs) ((bytes_eq-Decides n x).0 same) ∙ differ_none x xs (and_left (list_all (differ x) xs) (are_distinct xs) once) in
        omega (arith, none)
    of false other later = omega (arith, later)

pub each_once : (xs : List (List ℕ)) → ((n : List ℕ) → count n xs ≤ 1) → are_distinct xs ≡ true
each_once [] few = refl
each_once (x ∷ xs) few =
    let first : count x (x ∷ xs) ≤ 1 = few x in
    let none : count x xs ≡ 0 = omega (arith, counted_itself x xs, first) in
    and_both (list_all (differ x) xs) (are_distinct xs) (none_differ x xs none) (each_once xs (λ n. later n (few n)))
  where
    later : (n : List ℕ) → count n (x ∷ xs) ≤ 1 → count n xs ≤ 1
    later n is = omega (arith, is)
