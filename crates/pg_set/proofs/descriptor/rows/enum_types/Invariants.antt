use Rattle.std.proofs.Common.{◌≡◌, take, map}
use Rattle.pg_set.specs.inner.Rows.{enum_in}
use Rattle.pg_set.specs.stated.Views.{enum_view}
use Rattle.pg_set.proofs.descriptor.rows.enum_types.Given as goal

abbrev pub invariant-loop-row : goal.invariant-loop-row
invariant-loop-row l = map enum_view l.enums.items ≡ map enum_in (take l.row-index l.rows)
