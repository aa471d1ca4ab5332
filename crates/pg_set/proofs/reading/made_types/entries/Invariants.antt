use Rattle.std.proofs.Common.{◌≡◌, ℕ, List, map, take}
use Rattle.pg_dyn.specs.message.Kept.{message_of}
use Rattle.pg_set.specs.inner.reading.Owners.{message_in}
use Rattle.pg_set.specs.stated.StatedTypes.{last_named}
use Rattle.pg_set.proofs.reading.made_types.entries.Given as goal

abbrev pub invariant-loop-message : goal.invariant-loop-message
invariant-loop-message l = (name : List ℕ) → message_in l.entries name ≡ last_named (map message_of (take l.message-index l.messages)) name
