use Rattle.std.proofs.Common.{◌≡◌, map, flat_map, take}
use Rattle.pg_schema.specs.Parts.{field_shape, shape_of}
use Rattle.pg_schema.specs.Shape.{field_at, fields}
use Rattle.pg_pairs.specs.bounds.Covering.{children_beside}
use Rattle.pg_pairs.specs.graph.Edges.{edge_to}
use Rattle.pg_pairs.proofs.graph.priced.edges_of.Given as goal

abbrev pub invariant-loop-field : goal.invariant-loop-field
invariant-loop-field l =
    l.edges.items ≡ flat_map (λ f. map (edge_to l.pair f) (children_beside f (field_at (fields (shape_of l.new) l.pair.new) f.number)))
    (map field_shape (take l.field-index l.list))
