use Rattle.std.proofs.Common.{◌≡◌, true, take}
use Rattle.std.specs.List.{list_all}
use Rattle.pg_set.specs.stated.FileMessages.{is_place}
use Rattle.pg_set.specs.inner.reading.Made.{AreMarked}
use Rattle.pg_set.proofs.reading.made_oneofs.marks.Given as goal

abbrev pub invariant-loop-number : goal.invariant-loop-number
invariant-loop-number l = record {
  marked : AreMarked (take l.number-index l.numbers) l.count l.marks.items;
  places : list_all (is_place l.count) (take l.number-index l.numbers) ≡ true;
}
