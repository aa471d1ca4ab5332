-- What is in a list.
use Rattle.std.proofs.Common.{◌≡◌, ℕ, zero, suc, ◌<◌, List, [], ◌∷◌, length, filter, get_or, Bool, true, inl, inr, refl, sym, subst, arith, rules}
use Rattle.std.specs.List.{AllByRecursion, Contains}
use Rattle.std.specs.List.Sorted.{IsPermutation}
use Rattle.std.proofs.lemmas.List.Sorted.{Contains-permutation, IsPermutation-sym}
use Rattle.pg_dyn.specs.setting.ContentFaults.{AnyOf}

module _ {A : Type 0} where
  abbrev pub StandsIn : A → List A → Type 0
  StandsIn x ys = AnyOf (λ y. x ≡ y) ys

  to_contains : (x : A) (ys : List A) → StandsIn x ys → Contains ys x
  to_contains x [] h = absurd h
  to_contains x (y ∷ ys) (inl e) = (0, omega arith, sym e)
  to_contains x (y ∷ ys) (inr h) = let (k, inside, is) = to_contains x ys h in (suc k, omega arith, is)

  from_contains : (x : A) (ys : List A) (k : ℕ) → k < length ys → get_or ys k x ≡ x → StandsIn x ys
  from_contains x [] k inside is = absurd (omega arith)
  from_contains x (y ∷ ys) zero inside is = inl (sym is)
  from_contains x (y ∷ ys) (suc k) inside is = inr (from_contains x ys k (omega arith) is)

  pub moved_in : (x : A) (xs ys : List A) → IsPermutation xs ys → StandsIn x xs → StandsIn x ys
  moved_in x xs ys moved h = let (k, inside, is) = Contains-permutation xs ys x moved (to_contains x xs h) in from_contains x ys k inside is

  pub all_in : (P : A → Type 0) (xs : List A) → ((x : A) → StandsIn x xs → P x) → AllByRecursion P xs
  all_in P [] h = tt
  all_in P (x ∷ xs) h = (h x (inl refl), all_in P xs (λ y k. h y (inr k)))

  pub one_in : (P : A → Type 0) (x : A) (ys : List A) → AllByRecursion P ys → StandsIn x ys → P x
  one_in P x [] h k = absurd k
  one_in P x (y ∷ ys) h (inl e) = subst P (sym e) h.0
  one_in P x (y ∷ ys) h (inr k) = one_in P x ys h.1 k

  any_stands : (P : A → Type 0) (ys : List A) → AnyOf P ys → (y : A) × StandsIn y ys × P y
  any_stands P [] h = absurd h
  any_stands P (y ∷ ys) (inl h) = (y, inl refl, h)
  any_stands P (y ∷ ys) (inr h) = let (x, there, is) = any_stands P ys h in (x, inr there, is)

  pub any_from : (P : A → Type 0) (y : A) (ys : List A) → StandsIn y ys → P y → AnyOf P ys
  any_from P y [] h k = absurd h
  any_from P y (x ∷ ys) (inl e) k = inl (subst P e k)
  any_from P y (x ∷ ys) (inr h) k = inr (any_from P y ys h k)

  -- what holds of one of a list holds of one of it in another order
  pub any_moved : (P : A → Type 0) (xs ys : List A) → IsPermutation xs ys → AnyOf P ys → AnyOf P xs
  any_moved P xs ys moved h = let (y, there, is) = any_stands P ys h in any_from P y xs (moved_in y ys xs (IsPermutation-sym xs ys moved) there) is

  pub passes_once : (test : A → Bool) (x : A) (ys : List A) → StandsIn x ys → test x ≡ true → 0 < length (filter test ys)
  passes_once test x [] h k = absurd h
  passes_once test x (y ∷ ys) (inl same) k = search (rules, arith)
  passes_once test x (y ∷ ys) (inr h) k = search (rules, arith, passes_once test x ys h k)

  pub stands_at : (xs : List A) (i : ℕ) (x : A) → i < length xs → x ≡ get_or xs i x → StandsIn x xs
  stands_at xs i x inside is = from_contains x xs i inside (sym is)
