-- The least bounds of a graph.
use Rattle.std.specs.Prelude.{◌≡◌, ℕ, ◌<◌, ◌≤◌, true, List, ◌∷◌, length, map, filter, flat_map, is_some, Option, Some}
use Rattle.pg_pairs.specs.declared.choices.choice.Pair.{Pair}
use Rattle.pg_pairs.specs.declared.graph.edge.Edge.{Edge}
use Rattle.pg_pairs.specs.declared.graph.work.Work.{Work}
use Rattle.pg_pairs.specs.bounds.Covering.{IsAmong}
use Rattle.pg_pairs.specs.choices.Choices.{Table, number_for}
use Rattle.pg_pairs.specs.graph.LeastOf.{cost_under, least_of}
use Rattle.pg_pairs.specs.graph.Reached.{IsReachedInOrder}
use Rattle.pg_cert.specs.declared.bounds.PairBound.{PairBound}
use Rattle.pg_cert.specs.Certificate.{bound_in}
use Rattle.pg_least.specs.Searched.{pairs_of}

-- the bound is the least of the pair's base and of what its edges cost at their children's bounds
abbrev pub IsLeastBound : (Pair → List Edge) → (Pair → Option ℕ) → (Edge → ℕ → Option ℕ) → Table → Pair → Option ℕ
    → Type 0
IsLeastBound edges base price table pair bound =
    bound ≡ least_of (base pair ∷ map (cost_under price table) (edges pair))

-- just the root and the pairs that it leads to, breadth first, each with its least bound
pub record IsSettled (children : Pair → List Pair) (edges : Pair → List Edge) (base : Pair → Option ℕ)
    (price : Edge → ℕ → Option ℕ) (root : Pair) (bounds : List PairBound) : Type 0 where
  pub reached : IsReachedInOrder children root (pairs_of bounds)
  pub least : (pair : Pair) (bound : Option ℕ) → bound_in bounds pair ≡ Some bound
      → IsLeastBound edges base price (bound_in bounds) pair bound

-- the edges of the table's pairs whose child's bound is a number
abbrev pub edges_to_numbers : Table → List Edge → List Edge
edges_to_numbers table es = filter (λ (e : Edge). is_some (number_for table e.child)) es

-- the pairs whose bound is a number, the edges whose child's bound is one, and the pairs
pub record IsCounted (edges : Pair → List Edge) (bounds : List PairBound) (work : Work) : Type 0 where
  pub settled : work.settled ≡ length (filter (λ (b : PairBound). is_some b.bound) bounds)
  pub relaxed : work.relaxed ≡ length (edges_to_numbers (bound_in bounds) (flat_map edges (pairs_of bounds)))
  pub opened : work.opened ≡ length bounds

-- each bound of the table is the least of its pair's base and of what its edges cost under this table itself
abbrev pub AllLeast : (Pair → List Edge) → (Pair → Option ℕ) → (Edge → ℕ → Option ℕ) → Table → Type 0
AllLeast edges base price table =
    (pair : Pair) (bound : Option ℕ) → table pair ≡ Some bound → IsLeastBound edges base price table pair bound

-- the table's numbers are above 0
abbrev pub HasNumbers : Table → Type 0
HasNumbers table = (pair : Pair) (n : ℕ) → table pair ≡ Some (Some n) → 1 ≤ n

-- Where edges cost more than bounds above 0, two such tables of the same pairs, with numbers above 0, are the same.
abbrev pub OneSolution : Type 0
OneSolution =
    (edges : Pair → List Edge) (base : Pair → Option ℕ) (price : Edge → ℕ → Option ℕ) (s t : Table)
    → ((pair : Pair) → is_some (s pair) ≡ is_some (t pair)) → HasNumbers s → HasNumbers t
    → ((pair : Pair) (edge : Edge) (bound cost : ℕ) → is_some (s pair) ≡ true → IsAmong edge (edges pair) → 1 ≤ bound
    → price edge bound ≡ Some cost → bound < cost)
    → AllLeast edges base price s → AllLeast edges base price t → (pair : Pair) → s pair ≡ t pair
