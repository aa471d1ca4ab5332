use Rattle.std.proofs.Common.{◌≡◌, map, take}
use Rattle.pg_dyn.specs.message.Kept.{message_of}
use Rattle.pg_set.specs.stated.StatedEnums as stated
use Rattle.pg_set.specs.stated.Views.{value_view}
use Rattle.pg_set.proofs.reading.made_types.values.Given as goal

abbrev pub invariant-loop-message : goal.invariant-loop-message
invariant-loop-message l = map value_view l.values.items ≡ map stated.value (map message_of (take l.message-index l.messages))
