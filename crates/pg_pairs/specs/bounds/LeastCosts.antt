-- The least cost of a pair's choices: as the pair's bound it is exact.
use Rattle.std.specs.Prelude.{ℕ, ◌≤◌, ⊤, Option, Some, None, option_map}
use Rattle.std.specs.List.{AllByRecursion}
use Rattle.pg_schema.specs.Shape.{Shape}
use Rattle.pg_pairs.specs.declared.choices.choice.Choice.{Choice}
use Rattle.pg_pairs.specs.declared.choices.choice.Pair.{Pair}
use Rattle.pg_pairs.specs.views.EnumView.{EnumView}
use Rattle.pg_pairs.specs.choices.Choices.{Table, choices, cheapest}
use Rattle.pg_pairs.specs.bounds.Covering.{children, IsThere, IsExact}

-- what a cheapest choice of the pair costs; none where it has no choice
abbrev pub least_cost : EnumView → Table → Shape → Shape → Pair → Option ℕ
least_cost enum_view table old new pair =
    option_map (λ (c : Choice). c.cost) (cheapest (choices enum_view table old new pair))

-- Of two bounds the former is no more. Every bound is no more than 'none', and 'none' is more than every number.
abbrev pub IsNoMore : Option ℕ → Option ℕ → Type 0
IsNoMore m None = ⊤
IsNoMore None (Some n) = ⊥
IsNoMore (Some m) (Some n) = m ≤ n

-- Where a pair's children are there, its least cost is exact as its bound.
abbrev pub LeastCostsAreExact : Type 0
LeastCostsAreExact =
    (enum_view : EnumView) (old new : Shape) (table : Table) (pair : Pair) →
    AllByRecursion (IsThere table) (children old new pair) →
    IsExact enum_view old new table pair (least_cost enum_view table old new pair)
