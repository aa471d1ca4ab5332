use Rattle.std.proofs.Common.{◌≡◌, take, map}
use Rattle.pg_set.specs.inner.Rows.{field_in}
use Rattle.pg_set.specs.stated.Views.{field_view}
use Rattle.pg_set.proofs.descriptor.rows.fields.Given as goal

abbrev pub invariant-loop-row : goal.invariant-loop-row
invariant-loop-row l = map field_view l.fields.items ≡ map field_in (take l.row-index l.rows)
