use Rattle.std.proofs.Common.{◌≡◌, filter_map, map, take}
use Rattle.pg_dyn.specs.message.Kept.{message_of}
use Rattle.pg_set.specs.inner.reading.Held.{items_in}
use Rattle.pg_set.specs.stated.SetMessages.{child_in}
use Rattle.pg_set.proofs.descriptor.access.children.Given as goal

abbrev pub invariant-loop-at : goal.invariant-loop-at
invariant-loop-at l = map message_of l.children.items ≡ filter_map child_in (take l.at (items_in l.content))
