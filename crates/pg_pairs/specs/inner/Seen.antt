-- The pairs that a walk has seen.
use Rattle.std.specs.Prelude.{◌≡◌, ℕ, List, Bool}
use Rattle.std.specs.BTreeSet.{BTreeSet, contains}
use Rattle.std.specs.List.{list_any}
use Rattle.pg_pairs.specs.declared.choices.choice.Pair.{Pair}
use Rattle.pg_pairs.specs.bounds.Covering.{same_pair}
use Rattle.pg_pairs.specs.laws.ByIndices.{by_indices}

abbrev pub has_pair : List Pair → Pair → Bool
has_pair pairs p = list_any (λ q. same_pair q p) pairs

-- the set has the indices of the types of these pairs, and of no others
abbrev pub AreSeen : List Pair → BTreeSet (ℕ × ℕ) → Type 0
AreSeen pairs seen = (p : Pair) → contains by_indices seen (p.old.index, p.new.index) ≡ has_pair pairs p
