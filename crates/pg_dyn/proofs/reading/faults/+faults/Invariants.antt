-- A message inside has a level less. Of one message, what looks at a part of it comes before what looks at the whole.
use Rattle.std.proofs.Common.{◌+◌, ◌*◌}
use Rattle.pg_schema.specs.Parts.{shape_of}
use Rattle.pg_dyn.specs.inner.FaultSteps.{held_fields}
use Rattle.pg_dyn.proofs.lemmas.reading.faults.Ahead.{Ahead}
use Rattle.pg_dyn.proofs.lemmas.reading.faults.EntryFaults.{rank}
use Rattle.pg_dyn.proofs.reading.faults.+faults.Given as goal

abbrev pub decreases-check_item : goal.decreases-check_item
decreases-check_item l = 8 * l.levels + 1

abbrev pub decreases-check_record : goal.decreases-check_record
decreases-check_record l = 8 * l.levels + 2 + rank l.holder

abbrev pub decreases-find_fault : goal.decreases-find_fault
decreases-find_fault l = 8 * l.levels + 3 + rank l.holder

abbrev pub decreases-check_entry : goal.decreases-check_entry
decreases-check_entry l = 8 * l.levels + 4

abbrev pub decreases-check_known : goal.decreases-check_known
decreases-check_known l = 8 * l.levels + 5

abbrev pub invariant-find_fault-loop-found : goal.invariant-find_fault-loop-found
invariant-find_fault-loop-found l = Ahead (shape_of l.fn.schema) l.fn.levels (held_fields (shape_of l.fn.schema) l.fn.holder) l.fn.bytes l.fn.start l.at l.found-iterator
