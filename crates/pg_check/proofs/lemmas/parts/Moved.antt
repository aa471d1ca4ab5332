-- What holds of each item of a list, and of each two, in whatever order they are.
use Rattle.std.proofs.Common.{◌≡◌, ◌∙◌, ℕ, zero, suc, ◌<◌, Bool, true, nat_eq, cond, List, [], ◌∷◌, ◌++◌, length, map, get_or, arith, ap, refl, rules}
use Rattle.std.specs.List.{list_all, swap}
use Rattle.std.specs.List.Sorted.{IsPermutation}
use Rattle.std.proofs.lemmas.Bool.Decides.{nat_tests}
use Rattle.std.proofs.lemmas.Grind.{elements}
use Rattle.std.proofs.lemmas.List.Edits.{length-swap}
use Rattle.std.proofs.lemmas.List.Folds.{list_all-append, list_all-map}
use Rattle.std.proofs.lemmas.List.Sorted.{IsPermutation-keeps}
use Rattle.pg_schema.specs.rules.Pairs.{all_pairs}
use Rattle.pg_schema.proofs.lemmas.rules.PairLemmas.{and_left, and_right, and_both}

-- ---- each item

pub all_at : {A : Type 0} (test : A → Bool) (xs : List A) (i : ℕ) (d : A) → list_all test xs ≡ true → i < length xs → test (get_or xs i d) ≡ true
all_at test [] i d h lt = absurd (omega (arith, lt))
all_at test (x ∷ xs) zero d h lt = and_left _ _ h
all_at test (x ∷ xs) (suc i) d h lt = all_at test xs i d (and_right (test x) _ h) (omega (arith, lt))

all_from : {A : Type 0} (test : A → Bool) (xs : List A) → ((i : ℕ) (d : A) → i < length xs → test (get_or xs i d) ≡ true) → list_all test xs ≡ true
all_from test [] h = refl
all_from test (x ∷ xs) h = and_both _ _ (h 0 x (omega arith)) (all_from test xs (λ i d lt. h (suc i) d (omega (arith, lt))))

-- the index whose item comes to an index by a swap
abbrev origin : ℕ → ℕ → ℕ → ℕ
origin a b k = cond (nat_eq k a) b (cond (nat_eq k b) a k)

swapped_at : {A : Type 0} (xs : List A) (a b k : ℕ) (d : A) → a < length xs → b < length xs → k < length xs → get_or (swap xs a b) k d ≡ get_or xs (origin a b k) d
swapped_at xs a b k d la lb lk = grind (arith, elements, nat_tests)

origin_within : (n a b k : ℕ) → a < n → b < n → k < n → origin a b k < n
origin_within n a b k la lb lk = grind (arith, nat_tests)

origin_apart : (a b i j : ℕ) → (i ≡ j → ⊥) → origin a b i ≡ origin a b j → ⊥
origin_apart a b i j ne e = grind (arith, nat_tests)

all_swapped : {A : Type 0} (test : A → Bool) (xs : List A) (a b : ℕ) → a < length xs → b < length xs → list_all test xs ≡ true → list_all test (swap xs a b) ≡ true
all_swapped test xs a b la lb h = search (rules, all_from, length-swap, swapped_at, all_at, origin_within)

pub all_moved : {A : Type 0} (test : A → Bool) (xs ys : List A) → IsPermutation xs ys → list_all test xs ≡ true → list_all test ys ≡ true
all_moved test xs ys moved h = IsPermutation-keeps xs (λ zs. list_all test zs ≡ true) h (λ zs a b la lb k. all_swapped test zs a b la lb k) ys moved

-- ---- each two

abbrev pub IsSymmetric : {A : Type 0} → (A → A → Bool) → Type 0
IsSymmetric {A} test = (a b : A) → test a b ≡ true → test b a ≡ true

-- the test holds of each two indexes
abbrev EachTwo : {A : Type 0} → (A → A → Bool) → List A → Type 0
EachTwo {A} test xs = (i j : ℕ) (d : A) → i < length xs → j < length xs → (i ≡ j → ⊥) → test (get_or xs i d) (get_or xs j d) ≡ true

each_from_pairs : {A : Type 0} (test : A → A → Bool) → IsSymmetric test → (xs : List A) → all_pairs test xs ≡ true → EachTwo test xs
each_from_pairs test same [] h i j d li lj ne = absurd (omega (arith, li))
each_from_pairs test same (x ∷ xs) h zero zero d li lj ne = absurd (ne refl)
each_from_pairs test same (x ∷ xs) h zero (suc j) d li lj ne = all_at (test x) xs j d (and_left _ _ h) (omega (arith, lj))
each_from_pairs test same (x ∷ xs) h (suc i) zero d li lj ne = same x (get_or xs i d) (all_at (test x) xs i d (and_left _ _ h) (omega (arith, li)))
each_from_pairs test same (x ∷ xs) h (suc i) (suc j) d li lj ne =
    each_from_pairs test same xs (and_right (list_all (test x) xs) _ h) i j d (omega (arith, li)) (omega (arith, lj)) (λ e. ne (ap suc e))

pairs_from_each : {A : Type 0} (test : A → A → Bool) (xs : List A) → EachTwo test xs → all_pairs test xs ≡ true
pairs_from_each test [] h = refl
pairs_from_each test (x ∷ xs) h =
    and_both _ _ (all_from (test x) xs (λ i d lt. h 0 (suc i) d (omega arith) (omega (arith, lt)) (λ e. absurd (omega (arith, e)))))
    (pairs_from_each test xs (λ i j d li lj ne. h (suc i) (suc j) d (omega (arith, li)) (omega (arith, lj)) (λ e. ne (omega (arith, e)))))

swap_keeps : {A : Type 0} (test : A → A → Bool) (xs : List A) (a b : ℕ) → a < length xs → b < length xs → EachTwo test xs → EachTwo test (swap xs a b)
swap_keeps test xs a b la lb h i j d li lj ne = search (rules, length-swap, swapped_at, origin_within, origin_apart)

pub pairs_moved : {A : Type 0} (test : A → A → Bool) → IsSymmetric test → (xs ys : List A) → IsPermutation xs ys → all_pairs test xs ≡ true → all_pairs test ys ≡ true
pairs_moved test same xs ys moved h =
    pairs_from_each test ys (IsPermutation-keeps xs (EachTwo test) (each_from_pairs test same xs h) (λ zs a b la lb each. swap_keeps test zs a b la lb each) ys moved)

-- ---- lists joined

pub pairs_joined : {A : Type 0} (test : A → A → Bool) (xs ys : List A) → all_pairs test xs ≡ true → all_pairs test ys ≡ true → list_all (λ x. list_all (test x) ys) xs ≡ true → all_pairs test (xs ++ ys) ≡ true
pairs_joined test [] ys h k m = k
pairs_joined test (x ∷ xs) ys h k m =
    let first : list_all (test x) (xs ++ ys) ≡ true = list_all-append (test x) xs ys ∙ and_both (list_all (test x) xs) (list_all (test x) ys) (and_left _ _ h) (and_left _ _ m) in
    and_both (list_all (test x) (xs ++ ys)) (all_pairs test (xs ++ ys)) first
    (pairs_joined test xs ys (and_right (list_all (test x) xs) _ h) k (and_right (list_all (test x) ys) _ m))

-- one test after the other
pub all_weaker : {A : Type 0} (p q : A → Bool) → ((x : A) → p x ≡ true → q x ≡ true) → (xs : List A) → list_all p xs ≡ true → list_all q xs ≡ true
all_weaker p q f [] h = refl
all_weaker p q f (x ∷ xs) h = and_both _ _ (f x (and_left _ _ h)) (all_weaker p q f xs (and_right (p x) _ h))

pub pairs_weaker : {A : Type 0} (p q : A → A → Bool) → ((x y : A) → p x y ≡ true → q x y ≡ true) → (xs : List A) → all_pairs p xs ≡ true → all_pairs q xs ≡ true
pairs_weaker p q f [] h = refl
pairs_weaker p q f (x ∷ xs) h = and_both _ _ (all_weaker (p x) (q x) (f x) xs (and_left _ _ h)) (pairs_weaker p q f xs (and_right (list_all (p x) xs) _ h))

pub pairs_of_map : {A B : Type 0} (test : B → B → Bool) (f : A → B) (xs : List A) → all_pairs test (map f xs) ≡ all_pairs (λ x y. test (f x) (f y)) xs
pairs_of_map test f [] = refl
pairs_of_map test f (x ∷ xs) = search (rules, list_all-map, pairs_of_map test f xs)
