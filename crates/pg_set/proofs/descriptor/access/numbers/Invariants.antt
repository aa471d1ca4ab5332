use Rattle.std.proofs.Common.{◌≡◌, map, take}
use Rattle.pg_set.specs.inner.reading.Held.{items_in}
use Rattle.pg_set.specs.stated.SetMessages.{number_of}
use Rattle.pg_set.proofs.descriptor.access.numbers.Given as goal

abbrev pub invariant-loop-at : goal.invariant-loop-at
invariant-loop-at l = l.numbers.items ≡ map number_of (take l.at (items_in l.content))
