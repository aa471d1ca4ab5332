-- The entries before the first index are below the key, and those from the second on aren't.
use Rattle.std.proofs.Common.{◌-◌}
use Rattle.pg_dyn.specs.message_ref.Borrowed.{leaf_of}
use Rattle.pg_dyn.specs.message_ref.BorrowedItems.{key_of}
use Rattle.pg_dyn.proofs.lemmas.reading.entries.EntryPlaces.{IsBetween}
use Rattle.pg_dyn.proofs.reading.entries.place_of_key.Given as goal

abbrev pub invariant-loop-low : goal.invariant-loop-low
invariant-loop-low l = IsBetween key_of l.entries (leaf_of l.key) l.low l.high

abbrev pub decreases-loop-low : goal.decreases-loop-low
decreases-loop-low l = l.high - l.low
