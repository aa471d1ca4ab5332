-- The elements up to the index are there.
use Rattle.std.proofs.Common.{◌-◌, length}
use Rattle.pg_dyn.proofs.lemmas.reading.faults.RowFaults.{RowUpTo}
use Rattle.pg_dyn.proofs.reading.packed.check_packed.Given as goal

abbrev pub invariant-loop-start : goal.invariant-loop-start
invariant-loop-start l = RowUpTo l.fn.scalar l.fn.body l.start

abbrev pub decreases-loop-start : goal.decreases-loop-start
decreases-loop-start l = length l.fn.body - l.start
