use Rattle.std.proofs.Common.{◌≡◌, ◌≤◌, length, map, drop}
use Rattle.pg_schema.specs.Parts.{field_shape, shape_of}
use Rattle.pg_schema.specs.Shape.{fields}
use Rattle.pg_pairs.specs.choices.Choices.{cheapest, affordable, all_choices}
use Rattle.pg_pairs.specs.inner.LeastMembers.{KeepsLeast}
use Rattle.pg_pairs.specs.graph.GraphView.{seen}
use Rattle.pg_pairs.proofs.choices.least_cost.cheapest_of.Given as goal

abbrev pub decreases-loop-at : goal.decreases-loop-at
decreases-loop-at g l = l.at

abbrev pub invariant-loop-at : goal.invariant-loop-at
invariant-loop-at g l =
    record {
      place : l.at ≤ length l.list;
      found :
          l.found
          ≡ cheapest (affordable (all_choices (seen l.graph) (g.T.Table.bounds l.table) (fields (shape_of l.graph.new.now) l.type_id)
          (map field_shape (drop l.at l.list))));
      kept : KeepsLeast (fields (shape_of l.graph.new.now) l.type_id) (map field_shape (drop l.at l.list)) l.kept;
    }
