-- Marks of indices, and lists with one more at the end.
use Rattle.std.proofs.Common.{◌≡◌, ℕ, zero, suc, ◌<◌, Bool, ◌||◌, List, [], ◌∷◌, ◌++◌, length, drop, set, Some, slice_get, refl, ap, subst, arith, rules}
use Rattle.std.proofs.lemmas.Option.{none-some, same_Some}
use Rattle.std.specs.List.{AllByRecursion, list_any}

-- ---- one index marked

pub set_here : {A : Type 0} (xs : List A) (i : ℕ) (x : A) → i < length xs → slice_get (set xs i x) i ≡ Some x
set_here [] i x h = absurd (omega (arith, h))
set_here (y ∷ xs) zero x h = refl
set_here (y ∷ xs) (suc i) x h = set_here xs i x (omega (arith, h))

pub set_elsewhere : {A : Type 0} (xs : List A) (i j : ℕ) (x : A) → (j ≡ i → ⊥) → slice_get (set xs i x) j ≡ slice_get xs j
set_elsewhere [] i j x h = refl
set_elsewhere (y ∷ xs) zero zero x h = absurd (h refl)
set_elsewhere (y ∷ xs) zero (suc j) x h = refl
set_elsewhere (y ∷ xs) (suc i) zero x h = refl
set_elsewhere (y ∷ xs) (suc i) (suc j) x h = set_elsewhere xs i j x (λ e. h (ap suc e))

-- ---- one more at the end

pub any_more : {A : Type 0} (test : A → Bool) (xs : List A) (x : A) → list_any test (xs ++ x ∷ []) ≡ (list_any test xs || test x)
any_more test [] x = search rules
any_more test (y ∷ xs) x = search (rules, any_more test xs x)

pub all_front : {A : Type 0} (P : A → Type 0) (xs : List A) (x : A) → AllByRecursion P (xs ++ x ∷ []) → AllByRecursion P xs
all_front P [] x all = tt
all_front P (y ∷ xs) x all = (all.0, all_front P xs x all.1)

pub all_last : {A : Type 0} (P : A → Type 0) (xs : List A) (x : A) → AllByRecursion P (xs ++ x ∷ []) → P x
all_last P [] x all = all.0
all_last P (y ∷ xs) x all = all_last P xs x all.1

pub all_more : {A : Type 0} (P : A → Type 0) (xs : List A) (x : A) → AllByRecursion P xs → P x → AllByRecursion P (xs ++ x ∷ [])
all_more P [] x all here = (here, tt)
all_more P (y ∷ xs) x all here = (all.0, all_more P xs x all.1 here)

pub all_weaker : {A : Type 0} (P Q : A → Type 0) → ((x : A) → P x → Q x) → (xs : List A) → AllByRecursion P xs → AllByRecursion Q xs
all_weaker P Q to [] all = tt
all_weaker P Q to (x ∷ xs) all = (to x all.0, all_weaker P Q to xs all.1)

pub all_at : {A : Type 0} (P : A → Type 0) (xs : List A) (i : ℕ) (x : A) → AllByRecursion P xs → slice_get xs i ≡ Some x → P x
all_at P [] i x all is = absurd (none-some x is)
all_at P (y ∷ xs) zero x all is = subst P (same_Some y x is) all.0
all_at P (y ∷ xs) (suc i) x all is = all_at P xs i x all.1 is

pub rest_at : {A : Type 0} (xs : List A) (i : ℕ) (x : A) → slice_get xs i ≡ Some x → drop i xs ≡ x ∷ drop (suc i) xs
rest_at [] i x is = absurd (none-some x is)
rest_at (y ∷ xs) zero x is = ap (λ z. z ∷ xs) (same_Some y x is)
rest_at (y ∷ xs) (suc i) x is = rest_at xs i x is
