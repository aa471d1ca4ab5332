use Rattle.std.proofs.Common.{◌≡◌, ◌≤◌, ◌++◌, length, reverse, take}
use Rattle.pg_pairs.proofs.choices.told.turned.Given as goal

abbrev pub decreases-loop-at : goal.decreases-loop-at
decreases-loop-at l = l.at

abbrev pub invariant-loop-at : goal.invariant-loop-at
invariant-loop-at l = record { place : l.at ≤ length l.numbers; so_far : l.list.items ++ reverse (take l.at l.numbers) ≡ reverse l.numbers }
