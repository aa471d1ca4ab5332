use Rattle.std.proofs.Common.{◌≡◌, take, map}
use Rattle.pg_set.specs.inner.Rows.{type_in}
use Rattle.pg_set.specs.stated.Views.{type_view}
use Rattle.pg_set.proofs.descriptor.rows.message_types.Given as goal

abbrev pub invariant-loop-row : goal.invariant-loop-row
invariant-loop-row l = map type_view l.types.items ≡ map type_in (take l.row-index l.rows)
