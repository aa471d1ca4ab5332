-- A list in order that has each item of one whose numbers rise, and is as long, is that list.
use Rattle.std.proofs.Common.{◌≡◌, ℕ, suc, ◌<◌, ◌≤◌, true, nat_lt, inl, inr, List, [], ◌∷◌, map, length, get_or, refl, ap, sym, subst, ◌∙◌, arith, rules}
use Rattle.std.specs.List.{AllByRecursion, list_all}
use Rattle.std.specs.List.Sorted.{IsNonDecreasingBy}
use Rattle.pg_schema.specs.rules.Pairs.{is_rising}
use Rattle.pg_schema.proofs.lemmas.rules.PairLemmas.{and_left, and_right}
use Rattle.pg_set.proofs.lemmas.lists.Matched.{Has, rest, rest_length, still}
use Rattle.pg_set.proofs.lemmas.lists.Tests.{below}

module _ {A : Type 0} (key : A → ℕ) where
  abbrev pub AtLeast : A → List A → Type 0
  AtLeast x xs = AllByRecursion (λ y. key x ≤ key y) xs

  -- no item is below one before it
  abbrev pub InOrder : List A → Type 0
  InOrder [] = Unit {0}
  InOrder (x ∷ xs) = AtLeast x xs × InOrder xs

  least : (x : A) (xs : List A) → IsNonDecreasingBy key (x ∷ xs) → (ys : List A) → ((i : ℕ) (d : A) → i < length ys → key x ≤ key (get_or ys i d)) → AtLeast x ys
  least x xs up [] each = tt
  least x xs up (y ∷ ys) each = (each 0 y (omega arith), least x xs up ys (λ i d h. each (suc i) d (omega (arith, h))))

  pub in_order : (xs : List A) → IsNonDecreasingBy key xs → InOrder xs
  in_order [] up = tt
  in_order (x ∷ xs) up = (
    least x xs up xs (λ i d h. up 0 (suc i) d (omega arith) (omega (arith, h))),
    in_order xs (λ i j d le lt. up (suc i) (suc j) d (omega (arith, le)) (omega (arith, lt))),
  )

  rest_least : (x : A) (P : A → Type 0) (xs : List A) (has : Has P xs) → AtLeast x xs → AtLeast x (rest P xs has)
  rest_least x P [] has least = absurd has
  rest_least x P (y ∷ ys) (inl here) least = least.1
  rest_least x P (y ∷ ys) (inr later) least = (least.0, rest_least x P ys later least.1)

  rest_in_order : (P : A → Type 0) (xs : List A) (has : Has P xs) → InOrder xs → InOrder (rest P xs has)
  rest_in_order P [] has up = absurd has
  rest_in_order P (x ∷ xs) (inl here) up = up.1
  rest_in_order P (x ∷ xs) (inr later) up = (rest_least x P xs later up.0, rest_in_order P xs later up.1)

  -- what is had is not below what all of it is at least
  had_least : (x y : A) (xs : List A) → AtLeast x xs → Has (λ z. z ≡ y) xs → key x ≤ key y
  had_least x y [] least has = absurd has
  had_least x y (z ∷ xs) least (inl here) = subst (λ w. key x ≤ key w) here least.0
  had_least x y (z ∷ xs) least (inr later) = had_least x y xs least.1 later

  others : (y : A) (xs : List A) (has : Has (λ z. z ≡ y) xs) (ys : List A) → list_all (nat_lt (key y)) (map key ys) ≡ true
      → AllByRecursion (λ w. Has (λ z. z ≡ w) xs) ys → AllByRecursion (λ w. Has (λ z. z ≡ w) (rest (λ z. z ≡ y) xs has)) ys
  others y xs has [] rising all = tt
  others y xs has (w ∷ ys) rising all = (
    still (λ z. z ≡ y) (λ z. z ≡ w) (λ z a b. apart w (and_left (nat_lt (key y) (key w)) (list_all (nat_lt (key y)) (map key ys)) rising) (sym a ∙ b)) xs has all.0,
    others y xs has ys (and_right (nat_lt (key y) (key w)) (list_all (nat_lt (key y)) (map key ys)) rising) all.1,
  )
    where
      apart : (w : A) → nat_lt (key y) (key w) ≡ true → y ≡ w → ⊥
      apart w h same = let l = below (key y) (key w) h in let e = ap key same in absurd (omega (arith, l, e))

  -- what is left of a list in order comes after what was taken, which is below it
  first : (y : A) (xs : List A) (has : Has (λ z. z ≡ y) xs) (ys : List A) → InOrder xs → list_all (nat_lt (key y)) (map key ys) ≡ true → rest (λ z. z ≡ y) xs has ≡ ys → xs ≡ y ∷ ys
  first y [] has ys up rising same = absurd has
  first y (x ∷ xs) (inl here) ys up rising same = ap (λ z. z ∷ xs) here ∙ ap (λ zs. y ∷ zs) same
  first y (x ∷ xs) (inr later) [] up rising same = absurd (omega (arith, ap length same))
  first y (x ∷ xs) (inr later) (w ∷ ys) up rising same = search (rules, below, and_left, had_least)

  same_sorted : (ys xs : List A) → length xs ≡ length ys → InOrder xs → is_rising (map key ys) ≡ true → AllByRecursion (λ y. Has (λ z. z ≡ y) xs) ys → xs ≡ ys
  same_sorted [] [] many up rising all = refl
  same_sorted [] (x ∷ xs) many up rising all = absurd (omega (arith, many))
  same_sorted (y ∷ ys) xs many up rising all =
      let has = all.0 in
      let less : suc (length (rest (λ z. z ≡ y) xs has)) ≡ suc (length ys) = rest_length (λ z. z ≡ y) xs has ∙ many in
      let above = and_left (list_all (nat_lt (key y)) (map key ys)) (is_rising (map key ys)) rising in
      first y xs has ys up above
      (same_sorted ys (rest (λ z. z ≡ y) xs has) (omega (arith, less)) (rest_in_order (λ z. z ≡ y) xs has up) (and_right (list_all (nat_lt (key y)) (map key ys)) (is_rising (map key ys)) rising)
      (others y xs has ys above all.1))

  pub same_in_order : (xs ys : List A) → length xs ≡ length ys → InOrder xs → is_rising (map key ys) ≡ true → AllByRecursion (λ y. Has (λ z. z ≡ y) xs) ys → xs ≡ ys
  same_in_order xs ys many up rising all = same_sorted ys xs many up rising all
