use Rattle.std.proofs.Common.{◌≡◌, ◌≤◌}
use Rattle.pg_set.specs.inner.reading.Made.{AreRanks}
use Rattle.pg_set.specs.stated.StatedOneofs.{unmarked}
use Rattle.pg_set.proofs.reading.made_oneofs.ranks.Given as goal

abbrev pub invariant-loop-mark : goal.invariant-loop-mark
invariant-loop-mark l = record {
  counted : l.count ≡ unmarked l.marks l.mark-index;
  few : l.count ≤ l.mark-index;
  found : AreRanks l.marks l.mark-index l.found.items;
}
