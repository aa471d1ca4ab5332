use Rattle.std.proofs.Common.{◌≡◌, take, drop}
use Rattle.pg_check.specs.inner.NumberFaults.{at, first_again, first_twice}
use Rattle.pg_check.specs.rules.Numbers.{is_same}
use Rattle.pg_check.proofs.rules.numbers.first_of_few.Given as goal

abbrev pub invariant-loop-number : goal.invariant-loop-number
invariant-loop-number l = first_again is_same at (take l.number l.keys) (drop l.number l.keys) ≡ first_twice l.keys
