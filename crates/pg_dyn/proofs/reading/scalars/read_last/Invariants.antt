-- The last item of the records so far.
use Rattle.std.proofs.Common.{map, take}
use Rattle.pg_schema.specs.Parts.{field_shape}
use Rattle.pg_wire.specs.Reads.{seen_record}
use Rattle.pg_dyn.proofs.lemmas.reading.runs.ScalarRuns.{LastSoFar}
use Rattle.pg_dyn.proofs.reading.scalars.read_last.Given as goal

abbrev pub invariant-loop-record : goal.invariant-loop-record
invariant-loop-record l = LastSoFar (field_shape l.fn.field) (map seen_record (take l.record-index l.run)) l.held
