-- The words before the index are read.
use Rattle.std.proofs.Common.{◌-◌, length}
use Rattle.pg_dyn.proofs.lemmas.reading.PackedRows.{RowSoFar}
use Rattle.pg_dyn.proofs.reading.packed.push_words.Given as goal

abbrev pub invariant-loop-start : goal.invariant-loop-start
invariant-loop-start l = RowSoFar l.fn.wire_type l.fn.body l.start l.fn.words.items l.words.items

abbrev pub decreases-loop-start : goal.decreases-loop-start
decreases-loop-start l = length l.fn.body - l.start
