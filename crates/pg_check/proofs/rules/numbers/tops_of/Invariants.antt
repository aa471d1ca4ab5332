use Rattle.std.proofs.Common.{◌≡◌, ◌++◌, drop}
use Rattle.pg_check.specs.inner.Tops.{tops_from}
use Rattle.pg_check.proofs.rules.numbers.tops_of.Given as goal

abbrev pub invariant-loop-item : goal.invariant-loop-item
invariant-loop-item l = l.tops.items ++ tops_from l.top (drop l.item-index l.sorted) ≡ tops_from 0 l.sorted
