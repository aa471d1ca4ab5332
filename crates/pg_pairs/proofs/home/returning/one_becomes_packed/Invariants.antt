use Rattle.std.proofs.Common.{◌≡◌, drop}
use Rattle.std.specs.List.{list_any}
use Rattle.pg_schema.specs.Parts.{field_shape, shape_of}
use Rattle.pg_schema.specs.Shape.{field_at, fields}
use Rattle.pg_pairs.specs.home.Returns.{becomes_packed}
use Rattle.pg_pairs.proofs.home.returning.one_becomes_packed.Given as goal

abbrev pub invariant-loop-field : goal.invariant-loop-field
invariant-loop-field l =
    list_any (λ f. becomes_packed (field_shape f) (field_at (fields (shape_of l.new) l.type_id) f.number)) (drop l.field-index l.list)
    ≡ list_any (λ f. becomes_packed (field_shape f) (field_at (fields (shape_of l.new) l.type_id) f.number)) l.list
