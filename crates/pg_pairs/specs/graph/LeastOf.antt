-- The least of some costs, and what an edge costs under a table of bounds.
use Rattle.std.specs.Prelude.{ℕ, nat_le, List, [], ◌∷◌, if◌then◌else◌, Option, Some, None, option_and_then}
use Rattle.pg_pairs.specs.declared.graph.edge.Edge.{Edge}
use Rattle.pg_pairs.specs.choices.Choices.{Table, number_for}

-- the lesser of two costs; 'none' is more than every number
abbrev pub lesser_cost : Option ℕ → Option ℕ → Option ℕ
lesser_cost None o = o
lesser_cost (Some m) None = Some m
lesser_cost (Some m) (Some n) = if nat_le m n then Some m else Some n

-- the least of these costs; none where there is none
abbrev pub least_of : List (Option ℕ) → Option ℕ
least_of [] = None
least_of (o ∷ os) = lesser_cost o (least_of os)

-- what an edge costs at the bound of its child
abbrev pub cost_under : (Edge → ℕ → Option ℕ) → Table → Edge → Option ℕ
cost_under price table edge = option_and_then (price edge) (number_for table edge.child)
