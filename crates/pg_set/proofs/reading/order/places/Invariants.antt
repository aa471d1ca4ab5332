use Rattle.std.proofs.Common.{◌≡◌, take, true}
use Rattle.pg_schema.specs.rules.Pairs.{are_distinct}
use Rattle.pg_set.specs.inner.reading.FilePlaces.{IsIndex, importers}
use Rattle.pg_set.specs.stated.PostOrder.{paths_of}
use Rattle.pg_set.proofs.reading.order.places.Given as goal

abbrev pub invariant-loop-place : goal.invariant-loop-place
invariant-loop-place l = record {
  once : are_distinct (paths_of (importers (take l.place l.files))) ≡ true;
  index : IsIndex (paths_of (importers (take l.place l.files))) l.places;
}
