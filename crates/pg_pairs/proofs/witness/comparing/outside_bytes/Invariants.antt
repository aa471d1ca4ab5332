-- What is outside of the records before the index.
use Rattle.std.proofs.Common.{◌≡◌, flat_map, take}
use Rattle.pg_schema.specs.Parts.{shape_of}
use Rattle.pg_schema.specs.Shape.{fields}
use Rattle.pg_pairs.specs.inner.Comparing.{outside_record}
use Rattle.pg_pairs.proofs.witness.comparing.outside_bytes.Given as goal

abbrev pub invariant-loop-found : goal.invariant-loop-found
invariant-loop-found l = l.bytes.items ≡ flat_map (outside_record (fields (shape_of l.schema) l.type_id)) (take l.found-index l.unknown)
