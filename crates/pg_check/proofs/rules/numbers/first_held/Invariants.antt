use Rattle.std.proofs.Common.{◌≡◌, drop}
use Rattle.pg_check.specs.inner.NumberFaults.{first_reserved}
use Rattle.pg_check.proofs.rules.numbers.first_held.Given as goal

abbrev pub invariant-loop-one : goal.invariant-loop-one
invariant-loop-one l = first_reserved l.sorted (drop l.one-index l.keys) ≡ first_reserved l.sorted l.keys
