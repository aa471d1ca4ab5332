use Rattle.std.proofs.Common.{◌≡◌, map, take}
use Rattle.pg_dyn.specs.message.Kept.{message_of}
use Rattle.pg_set.specs.stated.StatedEnums as stated
use Rattle.pg_set.proofs.reading.made_types.value_ranges.Given as goal

abbrev pub invariant-loop-message : goal.invariant-loop-message
invariant-loop-message l = l.ranges.items ≡ map stated.range (map message_of (take l.message-index l.messages))
