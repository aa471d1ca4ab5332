use Rattle.std.proofs.Common.{◌≡◌, ◌++◌, map, drop}
use Rattle.pg_dyn.specs.message.Kept.{message_of}
use Rattle.pg_set.specs.stated.TypeMessages.{synthetic_places}
use Rattle.pg_set.proofs.reading.made_oneofs.synthetic_places.Given as goal

abbrev pub invariant-loop-field : goal.invariant-loop-field
invariant-loop-field l = l.places.items ++ synthetic_places (map message_of (drop l.field-index l.fields)) ≡ synthetic_places (map message_of l.fields)
