-- The least bounds of the pairs that several roots lead to.
use Rattle.std.specs.Prelude.{◌≡◌, ℕ, ◌↔◌, true, List, Option, Some, None}
use Rattle.std.specs.List.{AllByRecursion}
use Rattle.pg_schema.specs.Shape.{Shape}
use Rattle.pg_schema.specs.ShapeRules.{IsShape}
use Rattle.pg_dyn.specs.views.Breaking.{Compatible}
use Rattle.pg_pairs.specs.declared.choices.choice.Pair.{Pair}
use Rattle.pg_pairs.specs.declared.graph.edge.Edge.{Edge}
use Rattle.pg_pairs.specs.views.EnumView.{EnumView}
use Rattle.pg_pairs.specs.views.ViewLaws.{IsEnumView}
use Rattle.pg_pairs.specs.bounds.Covering.{IsAmong, IsExact, children}
use Rattle.pg_pairs.specs.choices.Causes.{HasNoCause}
use Rattle.pg_pairs.specs.choices.Choices.{Table}
use Rattle.pg_pairs.specs.graph.Edges.{is_pair}
use Rattle.pg_pairs.specs.graph.Reached.{IsReachedFrom}
use Rattle.pg_cert.specs.declared.bounds.PairBound.{PairBound}
use Rattle.pg_cert.specs.Certificate.{bound_in}
use Rattle.pg_least.specs.Searched.{BoundSays, pairs_of}
use Rattle.pg_least.specs.Least.{AllLeast}

-- just the roots and the pairs that they lead to, breadth first, each with its least bound
pub record IsSettledFrom (children : Pair → List Pair) (edges : Pair → List Edge) (base : Pair → Option ℕ)
    (price : Edge → ℕ → Option ℕ) (roots : List Pair) (bounds : List PairBound) : Type 0 where
  pub reached : IsReachedFrom children roots (pairs_of bounds)
  pub least : AllLeast edges base price (bound_in bounds)

-- each bound of the table is the least cost of its pair's choices
abbrev pub IsExactTable : EnumView → Shape → Shape → Table → Type 0
IsExactTable enum_view old new table =
    (pair : Pair) (bound : Option ℕ) → table pair ≡ Some bound → IsExact enum_view old new table pair bound

-- just the pairs that the roots lead to, in order, each with the least cost of its choices, which says the least length
-- of the pair's breaking messages, or that there are none
pub record AreBoundsFrom (enum_view : EnumView) (old new : Shape) (roots : List Pair)
    (bounds : List PairBound) : Type 0 where
  pub reached : IsReachedFrom (children old new) roots (pairs_of bounds)
  pub exact : IsExactTable enum_view old new (bound_in bounds)
  pub says : (pair : Pair) (bound : Option ℕ) → bound_in bounds pair ≡ Some bound
      → BoundSays enum_view old new pair bound

-- In such a table a pair is compatible, and its bound is 'none', just where neither it nor a pair that it leads to
-- has a cause.
abbrev pub CompatibleWithoutCauses : Type 0
CompatibleWithoutCauses =
    (enum_view : EnumView) (old new : Shape) (roots : List Pair) (bounds : List PairBound)
    → IsEnumView enum_view → IsShape old → IsShape new
    → AllByRecursion (λ root. is_pair old new root ≡ true) roots → AreBoundsFrom enum_view old new roots bounds
    → (pair : Pair) → IsAmong pair (pairs_of bounds)
    → (Compatible enum_view.alike old new pair.old pair.new ↔ HasNoCause enum_view old new pair)
    × ((bound_in bounds pair ≡ Some None) ↔ HasNoCause enum_view old new pair)
