-- What a table says of the pairs in its lines.
use Rattle.std.specs.Prelude.{◌≡◌, ℕ, List, slice_get, is_some, true, Option, Some}
use Rattle.pg_pairs.specs.declared.choices.choice.Pair.{Pair}
use Rattle.pg_pairs.specs.bounds.Covering.{IsAmong}
use Rattle.pg_cert.specs.declared.bounds.PairBound.{PairBound}
use Rattle.pg_cert.specs.Certificate.{are_bounds, bound_in}
use Rattle.pg_least.specs.Searched.{pairs_of}

-- A table has a bound for each pair in its lines and for no other, and the bound of a line is that of its pair.
pub record TablesByLines : Type 0 where
  pub among : (bounds : List PairBound) (pair : Pair) (bound : Option ℕ) → bound_in bounds pair ≡ Some bound
      → IsAmong pair (pairs_of bounds)
  pub there : (bounds : List PairBound) (pair : Pair) → IsAmong pair (pairs_of bounds)
      → is_some (bound_in bounds pair) ≡ true
  pub by_line : (bounds : List PairBound) (index : ℕ) (line : PairBound) → are_bounds bounds ≡ true
      → slice_get bounds index ≡ Some line → bound_in bounds line.pair ≡ Some line.bound
