use Rattle.std.proofs.Common.{◌≡◌, ◌-◌, map, take}
use Rattle.std.specs.List.{list_all}
use Rattle.pg_dyn.specs.message.Kept.{message_of}
use Rattle.pg_set.specs.stated.Codes.{has_types, have_types}
use Rattle.pg_set.proofs.reading.codes.+have_types.Given as goal

abbrev pub decreases-have_types : goal.decreases-have_types
decreases-have_types l = l.depth

abbrev pub invariant-loop-message : goal.invariant-loop-message
invariant-loop-message l = l.all ≡ list_all (has_types (have_types (l.depth - 1))) (map message_of (take l.message-index l.messages))
