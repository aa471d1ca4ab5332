use Rattle.std.proofs.Common.{◌≡◌, drop}
use Rattle.pg_check.specs.inner.NumberFaults.{first_outside}
use Rattle.pg_check.proofs.rules.numbers.first_outside.Given as goal

abbrev pub invariant-loop-one : goal.invariant-loop-one
invariant-loop-one l = first_outside l.lowest l.highest (drop l.one-index l.keys) ≡ first_outside l.lowest l.highest l.keys
