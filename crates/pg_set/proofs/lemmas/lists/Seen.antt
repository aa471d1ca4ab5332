-- What is made of a list's items by what is seen of them is made of the list that is seen.
use Rattle.std.proofs.Common.{◌≡◌, ℕ, zero, suc, Bool, ◌&&◌, ◌||◌, List, [], ◌∷◌, ◌++◌, map, flat_map, length, Option, Some, None, option_map, slice_get, refl, ap, ap₂}
use Rattle.std.specs.List.{list_all, list_any}

module _ {A V : Type 0} (view : A → V) where
  pub length_seen : (xs : List A) → length xs ≡ length (map view xs)
  length_seen [] = refl
  length_seen (x ∷ xs) = ap suc (length_seen xs)

  pub map_seen : {B : Type 0} (f : A → B) (g : V → B) → ((x : A) → f x ≡ g (view x)) → (xs : List A) → map f xs ≡ map g (map view xs)
  map_seen f g one [] = refl
  map_seen f g one (x ∷ xs) = ap₂ ◌∷◌ (one x) (map_seen f g one xs)

  pub flat_seen : {B : Type 0} (f : A → List B) (g : V → List B) → ((x : A) → f x ≡ g (view x)) → (xs : List A) → flat_map f xs ≡ flat_map g (map view xs)
  flat_seen f g one [] = refl
  flat_seen f g one (x ∷ xs) = ap₂ ◌++◌ (one x) (flat_seen f g one xs)

  pub all_seen : (f : A → Bool) (g : V → Bool) → ((x : A) → f x ≡ g (view x)) → (xs : List A) → list_all f xs ≡ list_all g (map view xs)
  all_seen f g one [] = refl
  all_seen f g one (x ∷ xs) = ap₂ ◌&&◌ (one x) (all_seen f g one xs)

  pub any_seen : (f : A → Bool) (g : V → Bool) → ((x : A) → f x ≡ g (view x)) → (xs : List A) → list_any f xs ≡ list_any g (map view xs)
  any_seen f g one [] = refl
  any_seen f g one (x ∷ xs) = ap₂ ◌||◌ (one x) (any_seen f g one xs)

  pub at_seen : (xs : List A) (place : ℕ) → option_map view (slice_get xs place) ≡ slice_get (map view xs) place
  at_seen [] place = refl
  at_seen (x ∷ xs) zero = refl
  at_seen (x ∷ xs) (suc place) = at_seen xs place

pub option_seen : {A V B : Type 0} (view : A → V) (f : A → B) (g : V → B) → ((x : A) → f x ≡ g (view x))
    → (o : Option A) → option_map f o ≡ option_map g (option_map view o)
option_seen view f g one None = refl
option_seen view f g one (Some x) = ap Some (one x)
