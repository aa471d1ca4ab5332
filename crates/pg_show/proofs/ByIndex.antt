-- Lists that are gone over by index.
use Rattle.std.proofs.Common.{◌≡◌, ℕ, zero, suc, ◌+◌, ◌≤◌, List, [], ◌∷◌, ◌++◌, flat_map, take, slice_get, Some, ap, sym, ◌∙◌, subst, append-nil, append_assoc, add-one, arith}
use denote.Param.Weighed.{most}

taken : {X A : Type 0} (f : X → List A) (xs : List X) (i : ℕ) (x : X) → slice_get xs i ≡ Some x → flat_map f (take (suc i) xs) ≡ flat_map f (take i xs) ++ f x
taken f [] i x h = absurd (cc)
taken f (y ∷ xs) zero x h = let same : y ≡ x = cc in append-nil (f y) ∙ ap f same
taken f (y ∷ xs) (suc i) x h = ap (λ t. f y ++ t) (taken f xs i x h) ∙ sym (append_assoc (f y) (flat_map f (take i xs)) (f x))

-- what the items up to the one at an index make
pub one_more : {X A : Type 0} (f : X → List A) (xs : List X) (i : ℕ) (x : X) → slice_get xs i ≡ Some x → flat_map f (take (i + 1) xs) ≡ flat_map f (take i xs) ++ f x
one_more f xs i x h = ap (λ n. flat_map f (take n xs)) (add-one i) ∙ taken f xs i x h

-- no item weighs more than the heaviest
pub within_most : {X : Type 0} (weight : X → ℕ) (xs : List X) (i : ℕ) (x : X) → slice_get xs i ≡ Some x → weight x ≤ most weight xs
within_most weight [] i x h = absurd (cc)
within_most weight (y ∷ xs) zero x h = let same : y ≡ x = cc in subst (λ z. weight z ≤ most weight (y ∷ xs)) same (omega arith)
within_most weight (y ∷ xs) (suc i) x h = omega (arith, within_most weight xs i x h)
