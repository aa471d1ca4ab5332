use Rattle.std.proofs.Common.{◌≡◌, map, take}
use Rattle.pg_schema.specs.Parts.{field_shape, shape_of}
use Rattle.pg_schema.specs.Shape.{fields}
use Rattle.pg_pairs.specs.bounds.Covering.{all_children}
use Rattle.pg_pairs.proofs.graph.children.children_of.Given as goal

abbrev pub invariant-loop-field : goal.invariant-loop-field
invariant-loop-field l = l.found.items ≡ all_children (fields (shape_of l.new) l.type_id) (map field_shape (take l.field-index l.list))
