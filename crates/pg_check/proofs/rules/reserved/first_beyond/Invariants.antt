use Rattle.std.proofs.Common.{◌≡◌, drop}
use Rattle.pg_check.specs.inner.ItemFaults.{first_beyond}
use Rattle.pg_check.proofs.rules.reserved.first_beyond.Given as goal

abbrev pub invariant-loop-item : goal.invariant-loop-item
invariant-loop-item l = first_beyond l.lowest l.highest (drop l.item-index l.items) ≡ first_beyond l.lowest l.highest l.items
