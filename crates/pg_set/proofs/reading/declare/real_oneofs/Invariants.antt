use Rattle.std.proofs.Common.{◌≡◌, ◌++◌, map, drop}
use Rattle.pg_dyn.specs.message.Kept.{message_of}
use Rattle.pg_set.specs.stated.TypeMessages.{real_oneofs}
use Rattle.pg_set.proofs.reading.declare.real_oneofs.Given as goal

abbrev pub invariant-loop-place : goal.invariant-loop-place
invariant-loop-place l = map message_of l.real.items ++ real_oneofs l.numbers l.place (map message_of (drop l.place l.oneofs)) ≡ real_oneofs l.numbers 0 (map message_of l.oneofs)
