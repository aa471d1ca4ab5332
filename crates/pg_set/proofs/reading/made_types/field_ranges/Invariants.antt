use Rattle.std.proofs.Common.{◌≡◌, map, take}
use Rattle.pg_dyn.specs.message.Kept.{message_of}
use Rattle.pg_set.specs.stated.StatedTypes.{field_range}
use Rattle.pg_set.proofs.reading.made_types.field_ranges.Given as goal

abbrev pub invariant-loop-message : goal.invariant-loop-message
invariant-loop-message l = l.ranges.items ≡ map field_range (map message_of (take l.message-index l.messages))
