use Rattle.std.proofs.Common.{◌≡◌, length, map}
use Rattle.pg_check.specs.inner.OptionFaults.{entry}
use Rattle.pg_check.specs.rules.Options.{known_among}
use Rattle.pg_check.proofs.rules.options.known_among.Given as goal

abbrev pub invariant-loop-table : goal.invariant-loop-table
invariant-loop-table l = known_among (map entry l.table) l.name ≡ known_among (map entry l.initial.table) l.name

abbrev pub decreases-loop-table : goal.decreases-loop-table
decreases-loop-table l = length l.table
