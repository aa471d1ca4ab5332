use Rattle.std.proofs.Common.{◌≡◌, ◌≤◌, length, filter, is_some, take}
use Rattle.pg_least.proofs.least_bounds.count_numbers.Given as goal

abbrev pub invariant-loop-cost : goal.invariant-loop-cost
invariant-loop-cost l = (l.count ≡ length (filter is_some (take l.cost-index l.costs))) × (l.count ≤ l.cost-index)
