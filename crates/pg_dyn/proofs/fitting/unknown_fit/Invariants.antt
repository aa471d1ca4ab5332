-- No field accepts one of the records before the index.
use Rattle.std.proofs.Common.{◌≡◌, true, take}
use Rattle.std.specs.List.{AllByRecursion}
use Rattle.pg_schema.specs.Parts.{shape_of}
use Rattle.pg_schema.specs.Shape.{fields}
use Rattle.pg_dyn.specs.declared.message.UnknownRecord.{UnknownRecord}
use Rattle.pg_dyn.specs.reading.Content.{is_unknown}
use Rattle.pg_dyn.specs.message.Seen.{record_seen}
use Rattle.pg_dyn.proofs.fitting.unknown_fit.Given as goal

abbrev pub invariant-loop-found : goal.invariant-loop-found
invariant-loop-found l = AllByRecursion (λ (u : UnknownRecord). is_unknown (fields (shape_of l.fn.schema) l.fn.type_id) (record_seen u) ≡ true) (take l.found-index l.fn.unknown)
