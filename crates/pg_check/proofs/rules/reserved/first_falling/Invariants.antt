use Rattle.std.proofs.Common.{◌≡◌, drop}
use Rattle.pg_check.specs.inner.ItemFaults.{first_falling}
use Rattle.pg_check.proofs.rules.reserved.first_falling.Given as goal

abbrev pub invariant-loop-item : goal.invariant-loop-item
invariant-loop-item l = first_falling (drop l.item-index l.items) ≡ first_falling l.items
