use Rattle.std.proofs.Common.{◌≡◌, map, take}
use Rattle.pg_set.specs.inner.Lent.{lent}
use Rattle.pg_set.specs.inner.reading.Held.{items_in}
use Rattle.pg_set.specs.stated.SetMessages.{text_of}
use Rattle.pg_set.proofs.descriptor.access.texts.Given as goal

abbrev pub invariant-loop-at : goal.invariant-loop-at
invariant-loop-at l = lent l.texts.items ≡ map text_of (take l.at (items_in l.content))
