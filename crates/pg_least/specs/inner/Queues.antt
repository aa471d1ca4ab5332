-- Indices that wait with costs.
use Rattle.std.specs.Prelude.{ℕ, ◌≤◌, List, ◌∷◌, IsPermutation}
use Rattle.std.specs.declared.cmp.Ordering.{Ordering}
use Rattle.std.specs.declared.cmp.Reverse.{Reverse}
use Rattle.std.specs.Ordering.{nat_cmp, ordering_then}
use Rattle.std.specs.List.{All}

abbrev pub by_cost : Reverse (ℕ × ℕ) → Reverse (ℕ × ℕ) → Ordering
by_cost x y = ordering_then (nat_cmp y.0.0 x.0.0) (nat_cmp y.0.1 x.0.1)

abbrev pub entry : ℕ → ℕ → Reverse (ℕ × ℕ)
entry cost at = record { 0 = (cost, at) }

abbrev pub IsOneMore : List (Reverse (ℕ × ℕ)) → ℕ → ℕ → List (Reverse (ℕ × ℕ)) → Type 0
IsOneMore before cost at after = IsPermutation (entry cost at ∷ before) after

pub record IsLeastTaken (before : List (Reverse (ℕ × ℕ))) (cost at : ℕ) (after : List (Reverse (ℕ × ℕ))) : Type 0 where
  pub moved : IsPermutation before (entry cost at ∷ after)
  pub least : All (λ e. cost ≤ e.0.0) before
