use Rattle.std.proofs.Common.{◌≡◌, ◌++◌, map, flat_map, drop}
use Rattle.pg_schema.specs.Parts.{field_shape, shape_of}
use Rattle.pg_schema.specs.Shape.{fields}
use Rattle.pg_pairs.specs.choices.Told.{told_at, told_of}
use Rattle.pg_pairs.specs.graph.GraphView.{seen}
use Rattle.pg_pairs.proofs.choices.told.told_of_fields.Given as goal

abbrev pub invariant-loop-at : goal.invariant-loop-at
invariant-loop-at l =
    map told_of l.told.items
    ++ flat_map (told_at (seen l.graph) (fields (shape_of l.graph.new.now) l.type_id) (map field_shape l.list)) (map field_shape (drop l.at l.list))
    ≡ flat_map (told_at (seen l.graph) (fields (shape_of l.graph.new.now) l.type_id) (map field_shape l.list)) (map field_shape l.list)
