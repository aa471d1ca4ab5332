-- Two schemas as a graph: the edges of a pair of types are its fields that hold messages in both, and an edge costs
-- what the choice of its child does.
use Rattle.std.specs.Prelude.{◌≡◌, ℕ, ◌^◌, ◌<◌, ◌≤◌, nat_le, nat_lt, Bool, true, ◌&&◌, List, ◌∷◌, map, flat_map, length, if◌then◌else◌, Option, Some, None, option_and_then, IfSome}
use Rattle.std.specs.List.{AllByRecursion}
use Rattle.pg_schema.specs.declared.parts.field.Presence.{Presence}
use Rattle.pg_schema.specs.declared.parts.field.Scalar.{Scalar}
use Rattle.pg_schema.specs.Shape.{Shape, FieldShape, fields, field_at}
use Rattle.pg_schema.specs.ShapeRules.{IsShape}
use Rattle.pg_dyn.specs.encoding.Encoding.{cap}
use Rattle.pg_pairs.specs.declared.choices.choice.Pair.{Pair}
use Rattle.pg_pairs.specs.declared.graph.edge.Edge.{Edge}
use Rattle.pg_pairs.specs.declared.graph.edge.Part.{Part}
use Rattle.pg_pairs.specs.declared.graph.edge.Part.TheVariants.{Whole, Value}
use Rattle.pg_pairs.specs.views.EnumView.{EnumView}
use Rattle.pg_pairs.specs.bounds.Covering.{IsAmong, children, children_beside, distinct}
use Rattle.pg_pairs.specs.choices.Costs.{one_item, with_length}
use Rattle.pg_pairs.specs.choices.Choices.{Table, map_key, no_bounds}
use Rattle.pg_pairs.specs.bounds.LeastCosts.{least_cost}
use Rattle.pg_pairs.specs.graph.LeastOf.{cost_under, least_of}
use Rattle.pg_pairs.specs.graph.Reached.{LeadsTo}

-- both types of the pair are there
abbrev pub is_pair : Shape → Shape → Pair → Bool
is_pair old new pair = nat_lt pair.old.index (length old) && nat_lt pair.new.index (length new)

-- What a pair of the schemas' types leads to are such pairs, its children among them.
abbrev pub PairsLeadToPairs : Type 0
PairsLeadToPairs =
    (old new : Shape) → IsShape old → IsShape new → (root pair : Pair) → is_pair old new root ≡ true →
    LeadsTo (children old new) root pair →
    is_pair old new pair ≡ true

-- of a map the value is the message
abbrev pub part_by : Option Scalar → Part
part_by (Some key) = Value
part_by None = Whole

abbrev pub part_of : Presence → Part
part_of p = part_by (map_key p)

abbrev pub edge_to : Pair → FieldShape → Pair → Edge
edge_to pair f child = record { from = pair; child = child; number = f.number; part = part_of f.presence }

-- an edge for each field with a child, by rising number
abbrev pub edges : Shape → Shape → Pair → List Edge
edges old new pair =
    flat_map (λ (f : FieldShape). map (edge_to pair f) (children_beside f (field_at (fields new pair.new) f.number)))
    (fields old pair.old)

-- what costs more than an encoding may have is no cost
abbrev pub within_cap : ℕ → Option ℕ
within_cap n = if nat_le n cap then Some n else None

-- a content of one item, whose body has as many bytes as the bound says
abbrev pub child_cost : FieldShape → ℕ → Option ℕ
child_cost f bound = within_cap (one_item f (with_length bound))

abbrev pub edge_price : Shape → Edge → ℕ → Option ℕ
edge_price old edge bound = option_and_then (λ f. child_cost f bound) (field_at (fields old edge.from.old) edge.number)

-- There are at most 2^24 pairs of types, children are such pairs, and a pair has at most 2^30 edges; without bounds a
-- pair costs a length that an encoding may have, and an edge costs such a length above its child's bound, or nothing.
pub record ArePriced (old new : Shape) : Type 0 where
  pub pairs_few : (pairs : List Pair) → distinct pairs ≡ pairs →
      AllByRecursion (λ p. is_pair old new p ≡ true) pairs → length pairs ≤ 2 ^ 24
  pub children_there : (pair child : Pair) → IsAmong child (children old new pair) → is_pair old new child ≡ true
  pub edges_few : (pair : Pair) → length (edges old new pair) ≤ 2 ^ 30
  pub bases_are_lengths : (enum_view : EnumView) (pair : Pair) →
      IfSome (least_cost enum_view no_bounds old new pair) (λ cost. (1 ≤ cost) × (cost ≤ cap))
  pub costs_more : (edge : Edge) (bound : ℕ) →
      IfSome (edge_price old edge bound) (λ cost. (bound < cost) × (cost ≤ cap))

abbrev pub SchemasArePriced : Type 0
SchemasArePriced = (old new : Shape) → IsShape old → IsShape new → ArePriced old new

-- A pair's least cost under a table is the least of its least cost without bounds and of what its edges cost under
-- the table.
abbrev pub LeastCostsByEdges : Type 0
LeastCostsByEdges =
    (enum_view : EnumView) (old new : Shape) (table : Table) → IsShape old → (pair : Pair) →
    least_cost enum_view table old new pair
    ≡ least_of (least_cost enum_view no_bounds old new pair ∷ map (cost_under (edge_price old) table)
    (edges old new pair))
