-- The numbers so far never fall, and the last is the highest.
use Rattle.std.proofs.Common.{◌≤◌, take}
use Rattle.std.specs.List.{AllByRecursion}
use Rattle.pg_wire.specs.declared.record.Record.{Record}
use Rattle.pg_dyn.specs.reading.Gathering.{NumbersRise}
use Rattle.pg_dyn.proofs.reading.sorting.in_order.Given as goal

abbrev pub invariant-loop-record : goal.invariant-loop-record
invariant-loop-record l = record {
  rise : NumbersRise (take l.record-index l.records);
  highest : AllByRecursion (λ (r : Record). r.number ≤ l.last) (take l.record-index l.records);
}
