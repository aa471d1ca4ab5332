-- What the contents before the index write is written.
use Rattle.std.proofs.Common.{◌≡◌, take, flat_map}
use Rattle.pg_schema.specs.Parts.{shape_of}
use Rattle.pg_schema.specs.Shape.{fields}
use Rattle.pg_dyn.specs.encoding.Unshared.{outside_written}
use Rattle.pg_dyn.proofs.encoding.unshared.encode_unshared_lent.Given as goal

abbrev pub invariant-loop-held : goal.invariant-loop-held
invariant-loop-held g l =
    l.out.items ≡ flat_map (outside_written g.M.Lends.parts (shape_of l.fn.schemas.own.now) l.type_id (fields (shape_of l.fn.schemas.other.now) l.fn.schemas.other_type)) (take l.held-index l.held-items)
