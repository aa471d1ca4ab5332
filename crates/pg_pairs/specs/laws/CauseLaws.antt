-- Laws of causes, and of what they and edges cost.
use Rattle.std.specs.Prelude.{◌≡◌, ℕ, ◌+◌, ◌≤◌, Bool, ◌⊎◌, Some, None}
use Rattle.pg_schema.specs.declared.parts.field.EnumId.{EnumId}
use Rattle.pg_schema.specs.declared.parts.field.Element.{Element}
use Rattle.pg_schema.specs.declared.parts.field.Element.TheVariants as elements
use Rattle.pg_schema.specs.Shape.{Shape}
use Rattle.pg_schema.specs.ShapeRules.{IsShape}
use Rattle.pg_dyn.specs.encoding.Encoding.{cap}
use Rattle.pg_pairs.specs.declared.choices.choice.Choice.{Choice}
use Rattle.pg_pairs.specs.declared.choices.choice.Pair.{Pair}
use Rattle.pg_pairs.specs.declared.graph.edge.Edge.{Edge}
use Rattle.pg_pairs.specs.views.EnumView.{EnumView, by_numbers}
use Rattle.pg_pairs.specs.views.ViewLaws.{IsEnumView}
use Rattle.pg_pairs.specs.bounds.Covering.{IsAmong, children}
use Rattle.pg_pairs.specs.witness.Carried.{choice_child}
use Rattle.pg_pairs.specs.choices.Causes.{causes}
use Rattle.pg_pairs.specs.graph.Edges.{edge_price, edges}
use Rattle.pg_pairs.specs.gaps.Gaps.{gap_item}

-- A cause has no child, and costs what an encoding may have.
abbrev pub CausesAreOwn : Type 0
CausesAreOwn =
    (enum_view : EnumView) (old new : Shape) → IsEnumView enum_view → IsShape old → IsShape new →
    (pair : Pair) (c : Choice) → IsAmong c (causes enum_view old new pair) →
    (choice_child old new pair c ≡ None) × (1 ≤ c.cost) × (c.cost ≤ cap)

-- Costs stay far below what an encoding may have: an edge costs at most 40 more than its child's bound, and a cause
-- at most 100. For each child there is an edge.
abbrev pub PricesAreNear : Type 0
PricesAreNear =
    (enum_view : EnumView) (old new : Shape) → IsShape old → (pair : Pair) →
    ((child : Pair) → IsAmong child (children old new pair) →
    (edge : Edge) × IsAmong edge (edges old new pair) × (edge.child ≡ child))
    × ((edge : Edge) (bound : ℕ) → IsAmong edge (edges old new pair) → bound + 40 ≤ cap →
    (cost : ℕ) × (edge_price old edge bound ≡ Some cost) × (cost ≤ bound + 40))
    × ((c : Choice) → IsAmong c (causes enum_view old new pair) → c.cost ≤ 100)

-- A view bears on gaps between two enums alone, and by numbers there are none of these.
abbrev pub NamesAlone : Type 0
NamesAlone =
    (enum_view : EnumView) (zero : Bool) →
    ((s t : EnumId) → gap_item by_numbers zero (elements.Enum s) (elements.Enum t) ≡ None)
    × ((old new : Element) →
    (gap_item enum_view zero old new ≡ gap_item by_numbers zero old new)
    ⊎ ((s : EnumId) × (t : EnumId) × (old ≡ elements.Enum s) × (new ≡ elements.Enum t)))
