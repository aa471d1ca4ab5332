-- A message inside has a level less. Of one message, what reads a part of it comes before what reads the whole.
use Rattle.std.proofs.Common.{◌+◌, ◌*◌, ◌-◌, length, map, take}
use Rattle.pg_schema.specs.Parts.{field_shape, shape_of}
use Rattle.pg_schema.specs.Shape.{fields}
use Rattle.pg_dyn.proofs.lemmas.reading.gathered.CountedRecords.{CountedUpTo}
use Rattle.pg_wire.specs.Reads.{seen_record}
use Rattle.pg_dyn.proofs.lemmas.reading.by_fields.BodiesByFields.{AreOpened}
use Rattle.pg_dyn.proofs.lemmas.reading.by_fields.ChildrenByFields.{AreRead}
use Rattle.pg_dyn.proofs.lemmas.reading.runs.FieldRuns.{ReadUpTo}
use Rattle.pg_dyn.proofs.lemmas.reading.by_fields.EntriesByFields.{EntriesSoFar}
use Rattle.pg_dyn.proofs.reading.nested.+reading.Given as goal

abbrev pub decreases-read_child : goal.decreases-read_child
decreases-read_child l = 8 * l.levels

abbrev pub decreases-read_children : goal.decreases-read_children
decreases-read_children l = 8 * l.levels + 1

abbrev pub decreases-read_entry : goal.decreases-read_entry
decreases-read_entry l = 8 * l.levels + 1

abbrev pub decreases-read_map : goal.decreases-read_map
decreases-read_map l = 8 * l.levels + 2

abbrev pub decreases-read_content : goal.decreases-read_content
decreases-read_content l = 8 * l.levels + 3

abbrev pub decreases-counted : goal.decreases-counted
decreases-counted l = 8 * l.levels + 4

abbrev pub decreases-read_contents : goal.decreases-read_contents
decreases-read_contents l = 8 * l.levels + 4

abbrev pub decreases-read_gathered : goal.decreases-read_gathered
decreases-read_gathered l = 8 * l.levels + 5

abbrev pub decreases-read_contents-loop-place : goal.decreases-read_contents-loop-place
decreases-read_contents-loop-place l = length l.fn.sorted - l.place

abbrev pub invariant-read_contents-loop-place : goal.invariant-read_contents-loop-place
invariant-read_contents-loop-place l = ReadUpTo (shape_of l.fn.schema) l.fn.levels l.fn.type_id l.fn.sorted l.place l.contents.items

-- The records of the bodies so far are gathered.
abbrev pub invariant-read_child-loop-record : goal.invariant-read_child-loop-record
invariant-read_child-loop-record l = AreOpened (shape_of l.schema) l.type_id (map seen_record (take l.record-index l.run)) l.gathered

-- The records so far are read, one after the other.
abbrev pub invariant-read_children-loop-place : goal.invariant-read_children-loop-place
invariant-read_children-loop-place l =
    AreRead (shape_of l.schema) l.levels (field_shape l.field) l.type_id (map seen_record (take l.place l.run)) l.values.items

abbrev pub invariant-read_map-loop-record : goal.invariant-read_map-loop-record
invariant-read_map-loop-record l =
    EntriesSoFar (shape_of l.schema) l.levels (field_shape l.field) l.key (map seen_record (take l.record-index l.run)) l.entries.items

abbrev pub invariant-counted-loop-place : goal.invariant-counted-loop-place
invariant-counted-loop-place l = CountedUpTo (shape_of l.schema) l.levels (fields (shape_of l.schema) l.type_id) l.oneof_runs l.known l.place l.counted.items
