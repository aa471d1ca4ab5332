-- How a witness goes down: from a pair by a choice to the choice's child, as long as there is one.
use Rattle.std.specs.Prelude.{◌≡◌, List, [], ◌∷◌, Some, None}
use Rattle.pg_schema.specs.Shape.{Shape}
use Rattle.pg_dyn.specs.message.Message.{Message}
use Rattle.pg_pairs.specs.declared.choices.choice.Pair.{Pair}
use Rattle.pg_pairs.specs.views.EnumView.{EnumView}
use Rattle.pg_pairs.specs.witness.Carried.{choice_child}
use Rattle.pg_pairs.specs.choices.Choices.{cheapest, Table, choices}
use Rattle.pg_pairs.specs.bounds.Covering.{children, IsAmong}
use Rattle.pg_cert.specs.declared.bounds.PairBound.{PairBound}
use Rattle.pg_cert.specs.Certificate.{bound_in}
use Rattle.pg_least.specs.From.{IsExactTable}
use Rattle.pg_least.specs.Searched.{pairs_of, IsPath, carried_along}
use Rattle.pg_pairs.specs.graph.Reached.{IsReachedInOrder}
use Rattle.pg_least.specs.declared.witness.PairChoice.{PairChoice}

-- Just the pairs that the root leads to, in order, each with the least cost of its choices.
pub record IsTableOf (enum_view : EnumView) (old new : Shape) (root : Pair) (bounds : List PairBound) : Type 0 where
  pub reached : IsReachedInOrder (children old new) root (pairs_of bounds)
  pub exact : IsExactTable enum_view old new (bound_in bounds)

-- the cheapest choice of the pair, which costs what the table says
pub record IsStep (enum_view : EnumView) (old new : Shape) (table : Table) (step : PairChoice) : Type 0 where
  pub is_first : cheapest (choices enum_view table old new step.pair) ≡ Some step.choice
  pub among : IsAmong step.choice (choices enum_view table old new step.pair)
  pub costs : table step.pair ≡ Some (Some step.choice.cost)

abbrev pub first_step : List PairChoice → PairChoice → PairChoice
first_step [] last = last
first_step (s ∷ ss) last = s

-- Steps to a last one, each with the pair of the next for its child.
abbrev pub IsPathDown : EnumView → Shape → Shape → Table → List PairChoice → PairChoice → Type 0
IsPathDown enum_view old new table [] last = IsStep enum_view old new table last
IsPathDown enum_view old new table (s ∷ ss) last =
    IsStep enum_view old new table s × (choice_child old new s.pair s.choice ≡ Some (first_step ss last).pair)
    × IsPathDown enum_view old new table ss last

-- the last of them has no child
pub record IsWholePath (enum_view : EnumView) (old new : Shape) (table : Table) (steps : List PairChoice)
    (last : PairChoice) : Type 0 where
  pub path : IsPathDown enum_view old new table steps last
  pub ends : choice_child old new last.pair last.choice ≡ None

-- the message is the one that the path from the pair carries
abbrev pub IsCarriedFrom : EnumView → Shape → Shape → Table → Pair → Message → Type 0
IsCarriedFrom enum_view old new table pair message =
    (path : List PairChoice) → IsPath enum_view old new table pair path
    → carried_along enum_view old new path ≡ Some message
