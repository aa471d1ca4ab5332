-- The records up to the index have the number.
use Rattle.std.proofs.Common.{◌≡◌, ◌-◌, ◌<◌, ◌≤◌, length, take, drop}
use Rattle.std.specs.List.{AllByRecursion}
use Rattle.pg_wire.specs.declared.record.Record.{Record}
use Rattle.pg_dyn.proofs.reading.sorting.run_end.Given as goal

abbrev pub invariant-loop-end : goal.invariant-loop-end
invariant-loop-end l = record {
  later : l.fn.place < l.end;
  inside : l.end ≤ length l.fn.records;
  run : AllByRecursion (λ (r : Record). r.number ≡ l.number) (take (l.end - l.fn.place) (drop l.fn.place l.fn.records));
}

abbrev pub decreases-loop-end : goal.decreases-loop-end
decreases-loop-end l = length l.fn.records - l.end
