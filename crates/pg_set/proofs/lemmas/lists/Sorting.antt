-- A list in order, whose items of one number are as in another, is that other, sorted.
use Rattle.std.proofs.Common.{◌≡◌, ℕ, ◌<◌, ◌≤◌, Bool, true, false, cond, nat_eq, nat_lt, List, [], ◌∷◌, filter, length, refl, ap, sym, ◌∙◌, arith, rules}
use Rattle.std.proofs.lemmas.Bool.{eqb-true}
use Rattle.pg_dyn.specs.reading.Optional.{first_or}
use Rattle.pg_set.specs.stated.StatedTypes.{by_key, put_in}
use Rattle.pg_set.proofs.lemmas.lists.SameSorted.{AtLeast, InOrder}
use Rattle.pg_set.proofs.lemmas.lists.Tests.{below, itself, not_below, not_lower}

-- whether its number is that one
abbrev pub of_key : {A : Type 0} → (A → ℕ) → ℕ → A → Bool
of_key key n x = nat_eq (key x) n

module _ {A : Type 0} (key : A → ℕ) where
  none : (n : ℕ) (x : A) (xs : List A) → n < key x → AtLeast key x xs → filter (of_key key n) xs ≡ []
  none n x [] low least = refl
  none n x (y ∷ ys) low least =
      let h = least.0 in
      ap (λ b. cond b (y ∷ filter (of_key key n) ys) (filter (of_key key n) ys)) (not_lower n (key y) (omega (arith, low, h))) ∙ none n x ys low least.1

  first_in : (x : A) (xs : List A) → filter (of_key key (key x)) (x ∷ xs) ≡ x ∷ filter (of_key key (key x)) xs
  first_in x xs = ap (λ b. cond b (x ∷ filter (of_key key (key x)) xs) (filter (of_key key (key x)) xs)) (itself (key x))

  none_with : (n : ℕ) (x : A) (xs : List A) → n < key x → AtLeast key x xs → filter (of_key key n) (x ∷ xs) ≡ []
  none_with n x xs low least = none n x (x ∷ xs) low (omega arith, least)

  filled : (x : A) (xs : List A) → filter (of_key key (key x)) (x ∷ xs) ≡ [] → ⊥
  filled x xs is = let e = ap length (sym (first_in x xs) ∙ is) in absurd (omega (arith, e))

  -- lists in order with the same items of each number are the same
  abbrev tail_of : List A → List A
  tail_of [] = []
  tail_of (x ∷ xs) = xs

  without_first : (n : ℕ) (x : A) (xs ys : List A) → filter (of_key key n) (x ∷ xs) ≡ filter (of_key key n) (x ∷ ys) → filter (of_key key n) xs ≡ filter (of_key key n) ys
  without_first n x xs ys same = search rules

  same_first : (x y : A) (xs ys : List A) → AtLeast key x xs → AtLeast key y ys → ((n : ℕ) → filter (of_key key n) (x ∷ xs) ≡ filter (of_key key n) (y ∷ ys)) → x ≡ y
  same_first x y xs ys low high same = of (nat_lt (key x) (key y)) (nat_lt (key y) (key x)) refl refl
    where
      of : (b c : Bool) → nat_lt (key x) (key y) ≡ b → nat_lt (key y) (key x) ≡ c → x ≡ y
      of true c is are = absurd (filled x xs (same (key x) ∙ none_with (key x) y ys (below (key x) (key y) is) high))
      of false true is are = absurd (filled y ys (sym (same (key y)) ∙ none_with (key y) x xs (below (key y) (key x) are) low))
      of false false is are =
          let one = not_below (key x) (key y) is in
          let other = not_below (key y) (key x) are in
          let level : key x ≡ key y = omega (arith, one, other) in
          ap (first_or x) (sym (first_in x xs) ∙ (same (key x) ∙ (ap (λ n. filter (of_key key n) (y ∷ ys)) level ∙ first_in y ys)))

  pub one_order : (xs ys : List A) → InOrder key xs → InOrder key ys → ((n : ℕ) → filter (of_key key n) xs ≡ filter (of_key key n) ys) → xs ≡ ys
  one_order [] [] up down same = refl
  one_order [] (y ∷ ys) up down same = absurd (filled y ys (sym (same (key y))))
  one_order (x ∷ xs) [] up down same = absurd (filled x xs (same (key x)))
  one_order (x ∷ xs) (y ∷ ys) up down same =
      let head = same_first x y xs ys up.0 down.0 same in
      ap (λ z. z ∷ xs) head
      ∙ ap (λ zs. y ∷ zs) (one_order xs ys up.1 down.1 (λ n. without_first n y xs ys (ap (λ z. filter (of_key key n) (z ∷ xs)) (sym head) ∙ same n)))

  -- putting an item in keeps order, and the items of each number
  least_in : (x f : A) (gs : List A) → key x ≤ key f → AtLeast key x gs → AtLeast key x (put_in key f gs)
  least_in x f [] low least = (low, tt)
  least_in x f (g ∷ gs) low least = search (rules, least_in x f gs low least.1, AtLeast)

  at_least : (f g : A) (gs : List A) → key f ≤ key g → AtLeast key g gs → AtLeast key f gs
  at_least f g [] low least = tt
  at_least f g (h ∷ hs) low least = let k = least.0 in (omega (arith, low, k), at_least f g hs low least.1)

  put_in_order : (f : A) (gs : List A) → InOrder key gs → InOrder key (put_in key f gs)
  put_in_order f [] up = (tt, tt)
  put_in_order f (g ∷ gs) up = search (rules, put_in_order f gs up.1, InOrder, below, least_in, not_below, at_least)

  put_filtered : (n : ℕ) (f : A) (gs : List A) → filter (of_key key n) (put_in key f gs) ≡ filter (of_key key n) (f ∷ gs)
  put_filtered n f [] = refl
  put_filtered n f (g ∷ gs) = search (rules, put_filtered n f gs, eqb-true, below)

  pub by_key_in_order : (fs : List A) → InOrder key (by_key key fs)
  by_key_in_order [] = tt
  by_key_in_order (f ∷ fs) = put_in_order f (by_key key fs) (by_key_in_order fs)

  by_key_filtered : (n : ℕ) (fs : List A) → filter (of_key key n) (by_key key fs) ≡ filter (of_key key n) fs
  by_key_filtered n [] = refl
  by_key_filtered n (f ∷ fs) = put_filtered n f (by_key key fs) ∙ ap (λ zs. cond (nat_eq (key f) n) (f ∷ zs) zs) (by_key_filtered n fs)

  pub sorted_is : (xs ys : List A) → InOrder key ys → ((n : ℕ) → filter (of_key key n) ys ≡ filter (of_key key n) xs) → ys ≡ by_key key xs
  sorted_is xs ys up same = one_order ys (by_key key xs) up (by_key_in_order xs) (λ n. same n ∙ sym (by_key_filtered n xs))
