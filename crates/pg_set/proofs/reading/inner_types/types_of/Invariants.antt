use Rattle.std.proofs.Common.{◌≡◌, filter, map, take}
use Rattle.pg_dyn.specs.message.Kept.{message_of}
use Rattle.pg_set.specs.stated.TypeMessages.{is_no_entry}
use Rattle.pg_set.proofs.reading.inner_types.types_of.Given as goal

abbrev pub invariant-loop-message : goal.invariant-loop-message
invariant-loop-message l = map message_of l.found.items ≡ filter is_no_entry (map message_of (take l.message-index l.messages))
