-- Each key before the next is below the one after it.
use Rattle.std.proofs.Common.{ℕ, ◌<◌, ◌+◌, get_or}
use Rattle.pg_dyn.specs.declared.message_ref.EntryRef.{EntryRef}
use Rattle.pg_dyn.specs.message_ref.BorrowedItems.{key_of}
use Rattle.pg_dyn.proofs.lemmas.fitting.FitsSteps.{IsUnder}
use Rattle.pg_dyn.proofs.reading.keys.keys_rise.Given as goal

abbrev pub invariant-loop-next : goal.invariant-loop-next
invariant-loop-next l = (k : ℕ) (d e : EntryRef) → k + 1 < l.next → IsUnder key_of (get_or l.entries k d) (get_or l.entries (k + 1) e)
