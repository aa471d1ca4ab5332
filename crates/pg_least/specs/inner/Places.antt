-- Pairs by their indices in a list.
use Rattle.std.specs.Prelude.{◌≡◌, ℕ, ◌<◌, List, slice_get, is_some, true, Some}
use Rattle.std.specs.BTreeMap.{BTreeMap, get}
use Rattle.pg_pairs.specs.declared.choices.choice.Pair.{Pair}
use Rattle.pg_pairs.specs.laws.ByIndices.{by_indices}
use Rattle.pg_least.specs.declared.arcs.Arc.{Arc}

-- an index for each of the first pairs, and only that of the pair
pub record ArePlaces (pairs : List Pair) (first : ℕ) (places : BTreeMap (ℕ × ℕ) ℕ) : Type 0 where
  pub sound : (p : Pair) (at : ℕ) → get by_indices places (p.old.index, p.new.index) ≡ Some at
      → slice_get pairs at ≡ Some p
  pub complete : (p : Pair) (at : ℕ) → at < first → slice_get pairs at ≡ Some p
      → is_some (get by_indices places (p.old.index, p.new.index)) ≡ true

-- the arc's indices are those of its edge's pairs
pub record IsPlaced (pairs : List Pair) (arc : Arc) : Type 0 where
  pub from : slice_get pairs arc.from ≡ Some arc.edge.from
  pub child : slice_get pairs arc.child ≡ Some arc.edge.child
