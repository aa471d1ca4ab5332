-- Numbers that are declared and numbers that are reserved, as a schema has them: none is there twice.
use Rattle.std.proofs.Common.{◌≡◌, ℕ, ◌+◌, Bool, true, not, ◌&&◌, ◌||◌, nat_lt, nat_le, nat_eq, List, [], ◌∷◌, ◌++◌, map, arith, refl, rules}
use Rattle.std.specs.List.{list_all, list_any}
use Rattle.std.proofs.lemmas.Bool.{false≢true}
use Rattle.std.proofs.lemmas.Bool.Decides.{nat_tests}
use Rattle.std.proofs.lemmas.List.Folds.{list_all-map}
use Rattle.pg_schema.specs.rules.Pairs.{all_pairs}
use Rattle.pg_schema.proofs.lemmas.rules.PairLemmas.{and_left, and_right, and_both}
use Rattle.pg_check.specs.declared.rules.numbers.Keyed.{Keyed}
use Rattle.pg_check.specs.declared.rules.numbers.Numbers.{Numbers}
use Rattle.pg_check.specs.rules.KeepsRules.{are_apart, is_free, lies_within, rises}
use Rattle.pg_check.specs.rules.Numbers.{is_in, is_same, is_within}
use Rattle.pg_check.specs.rules.ReservedItems.{overlap}
use Rattle.pg_check.proofs.lemmas.parts.Moved.{all_weaker, pairs_joined, pairs_of_map, pairs_weaker}

-- ---- two numbers, two ranges, and a number and a range

abbrev pub two_apart : ℕ → ℕ → Bool
two_apart m n = nat_lt m n || nat_lt n m

abbrev pub ranges_apart : (ℕ × ℕ) → (ℕ × ℕ) → Bool
ranges_apart p q = nat_lt p.1 q.0 || nat_lt q.1 p.0

abbrev pub is_outside : ℕ → (ℕ × ℕ) → Bool
is_outside n p = nat_lt n p.0 || nat_lt p.1 n

-- numbers of a schema are those of the files, counted from another one
module _ (lowest highest base : ℕ) (conv : ℕ → ℕ) (counts : (r : ℕ) → is_within lowest highest r ≡ true → conv r + base ≡ r) where
  abbrev pub number : Keyed → ℕ
  number k = conv k.key

  abbrev pub range : Numbers → ℕ × ℕ
  range r = (conv r.first, conv r.last)

  abbrev pub within : Keyed → Bool
  within k = is_within lowest highest k.key

  apart_numbers : (m n u v : ℕ) → u + base ≡ m → v + base ≡ n → not (nat_eq n m) ≡ true → (nat_lt u v || nat_lt v u) ≡ true
  apart_numbers m n u v e f h = grind (arith, nat_tests)

  key_apart : (j : Keyed) (ks : List Keyed) → within j ≡ true → list_all within ks ≡ true → list_all (λ k. not (is_same k j)) ks ≡ true → list_all (two_apart (number j)) (map number ks) ≡ true
  key_apart j [] wj ws h = refl
  key_apart j (k ∷ ks) wj ws h = search (rules, and_both, apart_numbers, and_left, and_right, key_apart j ks wj (and_right (within k) _ ws) (and_right (not (is_same k j)) _ h))

  pub keys_apart : (ks : List Keyed) → list_all within ks ≡ true → are_apart is_same ks ≡ true → all_pairs two_apart (map number ks) ≡ true
  keys_apart [] ws h = refl
  keys_apart (k ∷ ks) ws h =
      and_both _ _ (key_apart k ks (and_left _ _ ws) (and_right (within k) _ ws) (and_left _ _ h))
      (keys_apart ks (and_right (within k) _ ws) (and_right (list_all (λ j. not (is_same j k)) ks) _ h))

  -- ---- reserved items

  apart_four : (a b c d s t u v : ℕ) → s + base ≡ a → t + base ≡ b → u + base ≡ c → v + base ≡ d → not (nat_lt b a) ≡ true → not (nat_lt d c) ≡ true
      → not ((nat_le c d && nat_le a b) && (nat_le c b && nat_le a d)) ≡ true → (nat_lt t u || nat_lt v s) ≡ true
  apart_four a b c d s t u v e f g i p q h = grind (arith, nat_tests)

  two_items : (q r : Numbers) → lies_within lowest highest q ≡ true → lies_within lowest highest r ≡ true → rises q ≡ true → rises r ≡ true → not (overlap r q) ≡ true → ranges_apart (range q) (range r) ≡ true
  two_items q r wq wr uq ur h = search (rules, apart_four, and_left, and_right)

  item_apart : (q : Numbers) (rs : List Numbers) → lies_within lowest highest q ≡ true → rises q ≡ true → list_all (lies_within lowest highest) rs ≡ true → list_all rises rs ≡ true
      → list_all (λ r. not (overlap r q)) rs ≡ true → list_all (ranges_apart (range q)) (map range rs) ≡ true
  item_apart q [] wq uq ws us h = refl
  item_apart q (r ∷ rs) wq uq ws us h = search (rules, and_both, two_items, and_left, and_right, item_apart q rs wq uq (and_right (lies_within lowest highest r) _ ws) (and_right (rises r) _ us) (and_right (not (overlap r q)) _ h))

  pub items_apart : (rs : List Numbers) → list_all (lies_within lowest highest) rs ≡ true → list_all rises rs ≡ true → are_apart overlap rs ≡ true → all_pairs ranges_apart (map range rs) ≡ true
  items_apart [] ws us h = refl
  items_apart (r ∷ rs) ws us h =
      and_both _ _ (item_apart r rs (and_left _ _ ws) (and_left _ _ us) (and_right (lies_within lowest highest r) _ ws) (and_right (rises r) _ us) (and_left _ _ h))
      (items_apart rs (and_right (lies_within lowest highest r) _ ws) (and_right (rises r) _ us) (and_right (list_all (λ q. not (overlap q r)) rs) _ h))

  -- ---- both

  apart_from : (n a b u s t : ℕ) → u + base ≡ n → s + base ≡ a → t + base ≡ b → not ((nat_le a n && nat_le n b)) ≡ true → not (nat_lt b a) ≡ true → (nat_lt u s || nat_lt t u) ≡ true
  apart_from n a b u s t e f g h i = grind (arith, nat_tests)

  not_either : (a b : Bool) → not (a || b) ≡ true → (not a ≡ true) × (not b ≡ true)
  not_either a b h = grind (arith, false≢true)

  key_free : (k : Keyed) (rs : List Numbers) → within k ≡ true → list_all (lies_within lowest highest) rs ≡ true → list_all rises rs ≡ true → is_free rs k ≡ true → list_all (is_outside (number k)) (map range rs) ≡ true
  key_free k [] wk ws us h = refl
  key_free k (r ∷ rs) wk ws us h =
      let two = not_either (is_in k.key r) (list_any (is_in k.key) rs) h in
      let wr = and_left (lies_within lowest highest r) (list_all (lies_within lowest highest) rs) ws in
      and_both _ _ (apart_from k.key r.first r.last (conv k.key) (conv r.first) (conv r.last) (counts k.key wk)
      (counts r.first (and_left _ _ wr)) (counts r.last (and_right (is_within lowest highest r.first) _ wr)) two.0 (and_left _ _ us))
      (key_free k rs wk (and_right (lies_within lowest highest r) _ ws) (and_right (rises r) _ us) two.1)

  pub keys_free : (ks : List Keyed) (rs : List Numbers) → list_all within ks ≡ true → list_all (lies_within lowest highest) rs ≡ true → list_all rises rs ≡ true → list_all (is_free rs) ks ≡ true
      → list_all (λ n. list_all (is_outside n) (map range rs)) (map number ks) ≡ true
  keys_free [] rs wk ws us h = refl
  keys_free (k ∷ ks) rs wk ws us h = search (rules, and_both, key_free, and_left, and_right, keys_free ks rs (and_right (within k) _ wk) ws us (and_right (is_free rs k) _ h))

-- ---- uses of a schema

pub or_first : (a b : Bool) → a ≡ true → (a || b) ≡ true
or_first a b h = grind (arith, false≢true)

-- what is declared and what is reserved, of which no two share a number
pub all_uses : {U X R : Type 0} (beside : U → U → Bool) (use_of : X → U) (reserves : R → U) (number_of : X → ℕ) (span : R → ℕ × ℕ)
    → ((p q : R) → ranges_apart (span p) (span q) ≡ true → beside (reserves p) (reserves q) ≡ true) → ((x : X) (p : R) → is_outside (number_of x) (span p) ≡ true → beside (use_of x) (reserves p) ≡ true)
    → (xs : List X) (rs : List R) → all_pairs (λ x y. beside (use_of x) (use_of y)) xs ≡ true → all_pairs ranges_apart (map span rs) ≡ true
    → list_all (λ n. list_all (is_outside n) (map span rs)) (map number_of xs) ≡ true → all_pairs beside (map use_of xs ++ map reserves rs) ≡ true
all_uses beside use_of reserves number_of span two out xs rs h k m = search (rules, pairs_joined, pairs_of_map, pairs_weaker, list_all-map, all_weaker)
