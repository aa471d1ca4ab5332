-- No more are counted than are looked at.
use Rattle.std.proofs.Common.{◌≤◌}
use Rattle.pg_dyn.proofs.reading.packed.ends_in.Given as goal

abbrev pub invariant-loop-place : goal.invariant-loop-place
invariant-loop-place l = l.count ≤ l.place
