-- What is said of each message, said of whatever a writer may write of it: no runtime promises the order of fields or of
-- a map's entries (Encoding guide, "Message Structure", "Maps").
use Rattle.std.specs.Prelude.{ℕ, ◌≤◌, List, length}
use Rattle.pg_schema.specs.Shape.{Shape}
use Rattle.pg_dyn.specs.message.Message.{Message}
use Rattle.pg_dyn.specs.views.Comparison.{View}
use Rattle.pg_pairs.specs.declared.choices.choice.Pair.{Pair}
use Rattle.pg_least.specs.Loss.{OldWrites}
use Rattle.pg_order.specs.MayWrite.{MayWrite}
use Rattle.pg_order.specs.Sees.{IsSeen}

-- In whatever order the old writer writes the records of a message, the new reader sees the message whole.
abbrev pub SeenInAnyOrder : View → (old new : Shape) → Pair → Type 0
SeenInAnyOrder view old new pair =
    (message : Message) → OldWrites old pair message →
    (bytes : List ℕ) (written : MayWrite old pair.old message bytes) → IsSeen view old new pair.old pair.new message bytes written

-- Bytes in which the new reader doesn't see the message whole, in whatever order they are, are at least so many.
abbrev pub NoneUnseenShorter : View → (old new : Shape) → Pair → ℕ → Type 0
NoneUnseenShorter view old new pair n =
    (message : Message) → OldWrites old pair message →
    (bytes : List ℕ) (written : MayWrite old pair.old message bytes) →
    (IsSeen view old new pair.old pair.new message bytes written → ⊥) → n ≤ length bytes
