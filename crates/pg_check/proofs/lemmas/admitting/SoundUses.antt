-- Numbers of which a schema says that they are used once, as the rules read them: each is declared once, is free, and lies in one item.
use Rattle.std.proofs.Common.{◌≡◌, ◌∙◌, ℕ, ◌+◌, Bool, true, false, not, ◌&&◌, ◌||◌, nat_lt, nat_le, nat_eq, List, [], ◌∷◌, ◌++◌, map, sym, refl, arith, rules}
use Rattle.std.specs.List.{list_all}
use Rattle.std.proofs.lemmas.Bool.{false≢true}
use Rattle.std.proofs.lemmas.Bool.Decides.{nat_tests}
use Rattle.std.proofs.lemmas.List.Folds.{list_all-append}
use Rattle.pg_schema.specs.rules.Pairs.{all_pairs}
use Rattle.pg_schema.proofs.lemmas.rules.PairLemmas.{and_left, and_right, and_both}
use Rattle.pg_check.specs.declared.rules.numbers.Keyed.{Keyed}
use Rattle.pg_check.specs.declared.rules.numbers.Numbers.{Numbers}
use Rattle.pg_check.specs.rules.KeepsRules.{are_apart, is_free}
use Rattle.pg_check.specs.rules.Numbers.{is_same}
use Rattle.pg_check.specs.rules.ReservedItems.{overlap}

-- ---- lists

-- what holds of each two of two lists in a row
pub pairs_split : {A : Type 0} (test : A → A → Bool) (xs ys : List A) → all_pairs test (xs ++ ys) ≡ true
    → (all_pairs test xs ≡ true) × ((all_pairs test ys ≡ true) × (list_all (λ x. list_all (test x) ys) xs ≡ true))
pairs_split test [] ys h = (refl, (h, refl))
pairs_split test (x ∷ xs) ys h =
    let here : (list_all (test x) xs && list_all (test x) ys) ≡ true = sym (list_all-append (test x) xs ys) ∙ and_left (list_all (test x) (xs ++ ys)) _ h in
    let rest = pairs_split test xs ys (and_right (list_all (test x) (xs ++ ys)) _ h) in
    (and_both _ _ (and_left _ _ here) rest.0, (rest.1.0, and_both _ _ (and_right (list_all (test x) xs) _ here) rest.1.1))

not_either : (a b : Bool) → not a ≡ true → not b ≡ true → not (a || b) ≡ true
not_either a b h k = grind (arith, false≢true)

pub or_left : (a b : Bool) → b ≡ false → (a || b) ≡ true → a ≡ true
or_left a b none h = grind (arith, false≢true)

-- ---- numbers, counted from another one

free_of : (n a b u s t base : ℕ) → u + base ≡ n → s + base ≡ a → t + base ≡ b → (nat_lt u s || nat_lt t u) ≡ true → not (nat_le a n && nat_le n b) ≡ true
free_of n a b u s t base e g i h = grind (arith, nat_tests)

other_of : (m n u w base : ℕ) → u + base ≡ m → w + base ≡ n → (nat_lt u w || nat_lt w u) ≡ true → not (nat_eq n m) ≡ true
other_of m n u w base e g h = grind (arith, nat_tests)

apart_of : (a b c d s t u v base : ℕ) → s + base ≡ a → t + base ≡ b → u + base ≡ c → v + base ≡ d → (nat_lt t u || nat_lt v s) ≡ true
    → not ((nat_le c d && nat_le a b) && (nat_le c b && nat_le a d)) ≡ true
apart_of a b c d s t u v base e f g i h = grind (arith, nat_tests)

-- What is declared and what is reserved has the numbers that the rules read, counted from another one, and uses of a schema that are
-- beside each other share none.
module _ {U X R : Type 0} (base : ℕ) (beside : U → U → Bool) (use_of : X → U) (reserves : R → U) (key : X → Keyed) (item : R → Numbers) (number : X → ℕ) (first last : R → ℕ) (fits : X → Bool)
    (item_fits : R → Bool) (of_key : (x : X) → fits x ≡ true → number x + base ≡ (key x).key)
    (of_item : (r : R) → item_fits r ≡ true → (first r + base ≡ (item r).first) × (last r + base ≡ (item r).last)) where
  -- ---- what is declared and what is reserved

  free : ((x : X) (r : R) → beside (use_of x) (reserves r) ≡ true → (nat_lt (number x) (first r) || nat_lt (last r) (number x)) ≡ true)
      → (x : X) (rs : List R) → fits x ≡ true → list_all item_fits rs ≡ true → list_all (beside (use_of x)) (map reserves rs) ≡ true → is_free (map item rs) (key x) ≡ true
  free apart x [] fit all h = refl
  free apart x (r ∷ rs) fit all h = search (rules, and_left, not_either, free_of, and_right, free apart x rs fit (and_right (item_fits r) _ all) (and_right (beside (use_of x) (reserves r)) _ h))

  pub all_free : ((x : X) (r : R) → beside (use_of x) (reserves r) ≡ true → (nat_lt (number x) (first r) || nat_lt (last r) (number x)) ≡ true)
      → (xs : List X) (rs : List R) → list_all fits xs ≡ true → list_all item_fits rs ≡ true
      → list_all (λ u. list_all (beside u) (map reserves rs)) (map use_of xs) ≡ true → list_all (is_free (map item rs)) (map key xs) ≡ true
  all_free apart [] rs fit all h = refl
  all_free apart (x ∷ xs) rs fit all h = search (rules, and_both, free, and_left, and_right, all_free apart xs rs (and_right (fits x) _ fit) all (and_right (list_all (beside (use_of x)) (map reserves rs)) _ h))

  -- ---- items

  item_apart : ((q r : R) → beside (reserves q) (reserves r) ≡ true → (nat_lt (last q) (first r) || nat_lt (last r) (first q)) ≡ true)
      → (q : R) (rs : List R) → item_fits q ≡ true → list_all item_fits rs ≡ true → list_all (beside (reserves q)) (map reserves rs) ≡ true
      → list_all (λ r. not (overlap r (item q))) (map item rs) ≡ true
  item_apart apart q [] fit all h = refl
  item_apart apart q (r ∷ rs) fit all h = search (rules, and_left, and_both, apart_of, and_right, item_apart apart q rs fit (and_right (item_fits r) _ all) (and_right (beside (reserves q) (reserves r)) _ h))

  pub items_apart : ((q r : R) → beside (reserves q) (reserves r) ≡ true → (nat_lt (last q) (first r) || nat_lt (last r) (first q)) ≡ true)
      → (rs : List R) → list_all item_fits rs ≡ true → all_pairs beside (map reserves rs) ≡ true → are_apart overlap (map item rs) ≡ true
  items_apart apart [] all h = refl
  items_apart apart (r ∷ rs) all h =
      and_both _ _ (item_apart apart r rs (and_left _ _ all) (and_right (item_fits r) _ all) (and_left _ _ h))
      (items_apart apart rs (and_right (item_fits r) _ all) (and_right (list_all (beside (reserves r)) (map reserves rs)) _ h))

  -- ---- what is declared, where no two may have one number

  key_apart : ((x y : X) → beside (use_of x) (use_of y) ≡ true → (nat_lt (number x) (number y) || nat_lt (number y) (number x)) ≡ true)
      → (x : X) (ys : List X) → fits x ≡ true → list_all fits ys ≡ true → list_all (beside (use_of x)) (map use_of ys) ≡ true → list_all (λ k. not (is_same k (key x))) (map key ys) ≡ true
  key_apart apart x [] fit all h = refl
  key_apart apart x (y ∷ ys) fit all h = search (rules, and_both, other_of, and_left, and_right, key_apart apart x ys fit (and_right (fits y) _ all) (and_right (beside (use_of x) (use_of y)) _ h))

  pub keys_apart : ((x y : X) → beside (use_of x) (use_of y) ≡ true → (nat_lt (number x) (number y) || nat_lt (number y) (number x)) ≡ true)
      → (xs : List X) → list_all fits xs ≡ true → all_pairs beside (map use_of xs) ≡ true → are_apart is_same (map key xs) ≡ true
  keys_apart apart [] all h = refl
  keys_apart apart (x ∷ xs) all h =
      and_both _ _ (key_apart apart x xs (and_left _ _ all) (and_right (fits x) _ all) (and_left _ _ h))
      (keys_apart apart xs (and_right (fits x) _ all) (and_right (list_all (beside (use_of x)) (map use_of xs)) _ h))
