use Rattle.std.proofs.Common.{◌≡◌, take, true}
use Rattle.pg_schema.specs.rules.Pairs.{are_distinct}
use Rattle.pg_schema.specs.rules.TextSets.{IsSetOf}
use Rattle.pg_set.specs.inner.Lent.{lent}
use Rattle.pg_set.proofs.reading.order.are_apart.Given as goal

abbrev pub invariant-loop-path : goal.invariant-loop-path
invariant-loop-path l = record {
  once : are_distinct (lent (take l.path-index l.paths)) ≡ true;
  held : IsSetOf (lent (take l.path-index l.paths)) l.seen;
}
