use Rattle.std.proofs.Common.{◌≡◌, ◌++◌, map, drop}
use Rattle.pg_schema.specs.Parts.{field_shape, shape_of}
use Rattle.pg_schema.specs.Shape.{fields}
use Rattle.pg_pairs.specs.choices.Choices.{affordable, all_choices}
use Rattle.pg_pairs.specs.graph.GraphView.{seen}
use Rattle.pg_pairs.proofs.choices.option_list.choices_of.Given as goal

abbrev pub invariant-loop-at : goal.invariant-loop-at
invariant-loop-at g l =
    l.choices.items ++ affordable (all_choices (seen l.graph) (g.T.Table.bounds l.table) (fields (shape_of l.graph.new.now) l.type_id)
    (map field_shape (drop l.at l.list)))
    ≡ affordable (all_choices (seen l.graph) (g.T.Table.bounds l.table) (fields (shape_of l.graph.new.now) l.type_id)
    (map field_shape l.list))
