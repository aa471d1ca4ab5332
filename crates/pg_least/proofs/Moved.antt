-- Lists of the same things in another order.
use Rattle.std.proofs.Common.{◌≡◌, ℕ, zero, suc, ◌<◌, List, [], ◌∷◌, length, get_or, filter, Bool, cond, inl, inr, ⊎_elim, sym, ◌∙◌, subst, refl, arith, All}
use Rattle.std.specs.List.Sorted.{IsPermutation}
use Rattle.std.proofs.lemmas.List.Sums.{length-filter}
use Rattle.std.proofs.lemmas.List.Sorted.{All-permutation, sum_by-IsPermutation, IsPermutation-sym}
use Rattle.pg_pairs.specs.bounds.Covering.{IsAmong}

-- what is at an index is in the list
at_place : {A : Type 0} (xs : List A) → All (λ x. IsAmong x xs) xs
at_place xs k d inside = of xs k d inside
  where
    of : {A : Type 0} (xs : List A) (k : ℕ) (d : A) → k < length xs → IsAmong (get_or xs k d) xs
    of [] k d h = absurd (omega arith)
    of (x ∷ xs) zero d h = inl refl
    of (x ∷ xs) (suc k) d h = inr (of xs k d (omega arith))

each_there : {A : Type 0} (P : A → Type 0) (x : A) (xs : List A) → IsAmong x xs → All P xs → P x
each_there P x [] among all = absurd among
each_there P x (y ∷ ys) among all = ⊎_elim (λ same. subst P (sym same) (all 0 y (omega arith))) (λ later. each_there P x ys later (λ k d h. all (suc k) d (omega arith))) among

pub among_moved : {A : Type 0} (x : A) (xs ys : List A) → IsPermutation xs ys → IsAmong x xs → IsAmong x ys
among_moved x xs ys moved among = each_there (λ z. IsAmong z ys) x xs among (All-permutation (λ z. IsAmong z ys) ys xs (IsPermutation-sym xs ys moved) (at_place ys))

pub among_back : {A : Type 0} (x : A) (xs ys : List A) → IsPermutation xs ys → IsAmong x ys → IsAmong x xs
among_back x xs ys moved among = among_moved x ys xs (IsPermutation-sym xs ys moved) among

pub as_many : {A : Type 0} (test : A → Bool) (xs ys : List A) → IsPermutation xs ys → length (filter test ys) ≡ length (filter test xs)
as_many test xs ys moved = length-filter test ys ∙ sum_by-IsPermutation (λ x. cond (test x) 1 0) xs ys moved ∙ sym (length-filter test xs)
