-- A choice with its child, and what the message that it is reached by keeps to.
use Rattle.std.specs.Prelude.{◌≡◌, ℕ, ◌<◌, ⊤, Option, Some, None}
use Rattle.pg_schema.specs.Shape.{Shape}
use Rattle.pg_schema.specs.ShapeRules.{IsShape}
use Rattle.pg_dyn.specs.message.Message.{Message}
use Rattle.pg_dyn.specs.fitting.Fits.{Fits}
use Rattle.pg_dyn.specs.message.Kept.{Kept, type_of}
use Rattle.pg_pairs.specs.declared.choices.choice.Choice.{Choice}
use Rattle.pg_pairs.specs.declared.choices.choice.Pair.{Pair}
use Rattle.pg_pairs.specs.views.EnumView.{EnumView}
use Rattle.pg_pairs.specs.views.ViewLaws.{IsEnumView}
use Rattle.pg_pairs.specs.choices.Choices.{Table, choices}
use Rattle.pg_pairs.specs.witness.Carried.{carried, choice_child}
use Rattle.pg_pairs.specs.bounds.Covering.{IsAmong}
use Rattle.pg_pairs.specs.bounds.Laws.{ReachedBy}

-- the choice is one of the pair's, under some table of bounds
abbrev pub IsChoiceOf : EnumView → Shape → Shape → Pair → Choice → Type 0
IsChoiceOf enum_view old new pair c = (table : Table) × IsAmong c (choices enum_view table old new pair)

-- A child is given just where the choice has one, and is a message of that pair's old type.
abbrev pub ChildGiven : Shape → Option Pair → Option Kept → Type 0
ChildGiven old None None = ⊤
ChildGiven old (Some p) (Some m) = Fits old m × (type_of m ≡ p.old)
ChildGiven old p m = ⊥

-- The child comes just where there is one, and has the length of its pair's bound.
abbrev pub ChildReached : EnumView → Shape → Shape → Table → Option Pair → Option Message → Type 0
ChildReached enum_view old new table None None = ⊤
ChildReached enum_view old new table (Some p) (Some m) =
    (x : ℕ) × (table p ≡ Some (Some x)) × ReachedBy enum_view old new p m x
ChildReached enum_view old new table p m = ⊥

-- What a table has for the child of a choice of that cost, where the choice has one: a smaller number.
abbrev pub ChildThere : Table → Option Pair → ℕ → Type 0
ChildThere table None cost = ⊤
ChildThere table (Some p) cost = (x : ℕ) × (table p ≡ Some (Some x)) × (x < cost)

-- Each choice through a child costs more than the child's bound.
abbrev pub EachChildCostsLess : Type 0
EachChildCostsLess =
    (enum_view : EnumView) (old new : Shape) (table : Table) → IsEnumView enum_view → IsShape old → IsShape new →
    (pair : Pair) (c : Choice) → IsAmong c (choices enum_view table old new pair) →
    ChildThere table (choice_child old new pair c) c.cost

-- The message of each choice breaks and has the choice's cost.
abbrev pub EachChoiceIsCarried : Type 0
EachChoiceIsCarried =
    (enum_view : EnumView) (old new : Shape) (table : Table) → IsEnumView enum_view → IsShape old → IsShape new →
    (pair : Pair) (c : Choice) → IsAmong c (choices enum_view table old new pair) →
    (child : Option Message) → ChildReached enum_view old new table (choice_child old new pair c) child →
    ReachedBy enum_view old new pair (carried enum_view old new pair c child) c.cost
