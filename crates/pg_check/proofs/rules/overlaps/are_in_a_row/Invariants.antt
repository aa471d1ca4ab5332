use Rattle.std.proofs.Common.{◌≡◌, drop, None}
use Rattle.pg_check.specs.inner.Rows.{follow}
use Rattle.pg_check.proofs.rules.overlaps.are_in_a_row.Given as goal

abbrev pub invariant-loop-item : goal.invariant-loop-item
invariant-loop-item l = follow l.end (drop l.item-index l.items) ≡ follow None l.items
