-- The records so far are gathered.
use Rattle.pg_schema.specs.Parts.{shape_of}
use Rattle.pg_dyn.proofs.lemmas.reading.gathered.GatheringSteps.{GatheringAhead}
use Rattle.pg_dyn.proofs.reading.gathering.Gathered.add_all.Given as goal

abbrev pub invariant-loop-found : goal.invariant-loop-found
invariant-loop-found l = GatheringAhead (shape_of l.fn.schema) l.fn.type_id l.fn.bytes l.fn.self l.self l.found-iterator
