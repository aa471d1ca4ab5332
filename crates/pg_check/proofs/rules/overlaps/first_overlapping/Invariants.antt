-- The items before the one index are apart, and those before the other aren't.
use Rattle.std.proofs.Common.{◌-◌}
use Rattle.pg_check.proofs.lemmas.rules.Halves.{AreHalves}
use Rattle.pg_check.proofs.rules.overlaps.first_overlapping.Given as goal

abbrev pub invariant-loop-high : goal.invariant-loop-high
invariant-loop-high l = AreHalves l.items l.low l.high

abbrev pub decreases-loop-high : goal.decreases-loop-high
decreases-loop-high l = l.high - l.low
