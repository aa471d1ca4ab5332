use Rattle.std.proofs.Common.{◌≡◌, take, map}
use Rattle.pg_set.specs.inner.Rows.{value_in}
use Rattle.pg_set.specs.stated.Views.{value_view}
use Rattle.pg_set.proofs.descriptor.rows.values.Given as goal

abbrev pub invariant-loop-row : goal.invariant-loop-row
invariant-loop-row l = map value_view l.values.items ≡ map value_in (take l.row-index l.rows)
