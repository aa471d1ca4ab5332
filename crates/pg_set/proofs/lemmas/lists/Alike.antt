-- Lists whose items are alike, one by one: what looks at no more of an item makes the same of both.
use Rattle.std.proofs.Common.{◌≡◌, Bool, ◌&&◌, List, [], ◌∷◌, ◌++◌, flat_map, refl, ap₂}
use Rattle.std.specs.List.{list_all}

-- tests of one list that agree
pub all_agree : {A : Type 0} (f g : A → Bool) → ((x : A) → f x ≡ g x) → (xs : List A) → list_all f xs ≡ list_all g xs
all_agree f g one [] = refl
all_agree f g one (x ∷ xs) = ap₂ ◌&&◌ (one x) (all_agree f g one xs)

pub flat_agree : {A B : Type 0} (f g : A → List B) → ((x : A) → f x ≡ g x) → (xs : List A) → flat_map f xs ≡ flat_map g xs
flat_agree f g one [] = refl
flat_agree f g one (x ∷ xs) = ap₂ ◌++◌ (one x) (flat_agree f g one xs)
