-- Indices and elements of lists.
use Rattle.std.proofs.Common.{ℕ, zero, suc, ◌<◌, ◌++◌, List, [], ◌∷◌, length, get_or, inl, inr, ⊎_elim, arith}
use Rattle.std.specs.List.{AllByRecursion}
use Rattle.pg_pairs.specs.bounds.Covering.{IsAmong}

pub each_at : {X : Type 0} (P : X → Type 0) (xs : List X) (i : ℕ) (d : X) → i < length xs → AllByRecursion P xs → P (get_or xs i d)
each_at P [] i d within each = absurd (omega arith)
each_at P (x ∷ xs) zero d within each = each.0
each_at P (x ∷ xs) (suc i) d within each = each_at P xs i d (omega arith) each.1

pub among_left : {A : Type 0} (x : A) (xs ys : List A) → IsAmong x xs → IsAmong x (xs ++ ys)
among_left x [] ys h = absurd h
among_left x (y ∷ xs) ys h = ⊎_elim (λ same. inl same) (λ later. inr (among_left x xs ys later)) h

pub among_right : {A : Type 0} (x : A) (xs ys : List A) → IsAmong x ys → IsAmong x (xs ++ ys)
among_right x [] ys h = h
among_right x (y ∷ xs) ys h = inr (among_right x xs ys h)
