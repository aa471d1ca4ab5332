use Rattle.std.proofs.Common.{◌≡◌, ◌++◌, drop}
use Rattle.pg_notes.specs.inner.Tops.{tops_from}
use Rattle.pg_notes.proofs.reserved.tops_of.Given as goal

abbrev pub invariant-loop-range : goal.invariant-loop-range
invariant-loop-range l = l.tops.items ++ tops_from l.top (drop l.range-index l.sorted) ≡ tops_from 0 l.sorted
