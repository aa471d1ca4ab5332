-- Items that are sorted by their numbers, no two of one number.
use Rattle.std.proofs.Common.{◌≡◌, ℕ, suc, ◌<◌, ◌≤◌, true, nat_lt, List, [], ◌∷◌, length, map, get_or, arith, refl}
use Rattle.std.specs.List.{list_all}
use Rattle.std.specs.List.Sorted.{IsPermutation, IsNonDecreasingBy}
use Rattle.std.proofs.lemmas.Bool.Decides.{nat_tests}
use Rattle.std.proofs.lemmas.List.Sorted.{IsPermutation-map}
use Rattle.pg_schema.specs.rules.Pairs.{all_pairs, is_rising}
use Rattle.pg_schema.proofs.lemmas.rules.PairLemmas.{and_left, and_right, and_both}
use Rattle.pg_check.proofs.lemmas.parts.Moved.{IsSymmetric, pairs_moved}
use Rattle.pg_check.proofs.lemmas.parts.UsesApart.{two_apart}

pub two_symmetric : IsSymmetric two_apart
two_symmetric m n h = grind (arith, nat_tests)

above : (m n : ℕ) → m ≤ n → two_apart m n ≡ true → nat_lt m n ≡ true
above m n le h = grind (arith, nat_tests)

all_above : {A : Type 0} (key : A → ℕ) (n : ℕ) (xs : List A) → ((i : ℕ) (d : A) → i < length xs → n ≤ key (get_or xs i d)) → list_all (two_apart n) (map key xs) ≡ true → list_all (nat_lt n) (map key xs) ≡ true
all_above key n [] up h = refl
all_above key n (x ∷ xs) up h =
    and_both _ _ (above n (key x) (up 0 x (omega arith)) (and_left _ _ h))
    (all_above key n xs (λ i d lt. up (suc i) d (omega (arith, lt))) (and_right (two_apart n (key x)) _ h))

pub rising_from : {A : Type 0} (key : A → ℕ) (xs : List A) → IsNonDecreasingBy key xs → all_pairs two_apart (map key xs) ≡ true → is_rising (map key xs) ≡ true
rising_from key [] up h = refl
rising_from key (x ∷ xs) up h =
    and_both _ _ (all_above key (key x) xs (λ i d lt. up 0 (suc i) d (omega arith) (omega (arith, lt))) (and_left _ _ h))
    (rising_from key xs (λ i j d le lt. up (suc i) (suc j) d (omega (arith, le)) (omega (arith, lt))) (and_right (list_all (two_apart (key x)) (map key xs)) _ h))

-- in another order no two are of one number either
pub moved_numbers : {A : Type 0} (key : A → ℕ) (xs ys : List A) → IsPermutation xs ys → all_pairs two_apart (map key xs) ≡ true → all_pairs two_apart (map key ys) ≡ true
moved_numbers key xs ys moved h = pairs_moved two_apart two_symmetric (map key xs) (map key ys) (IsPermutation-map key xs ys moved) h
