use Rattle.std.proofs.Common.{◌≡◌, ◌++◌, map, drop}
use Rattle.pg_dyn.specs.message.Kept.{message_of}
use Rattle.pg_set.specs.inner.Lent.{lent}
use Rattle.pg_set.specs.stated.SetMessages.{text_at}
use Rattle.pg_set.specs.stated.TypeMessages.{real_oneofs}
use Rattle.pg_set.proofs.reading.made_oneofs.real_names.Given as goal

abbrev pub invariant-loop-place : goal.invariant-loop-place
invariant-loop-place l = lent l.names.items ++ map (text_at 1) (real_oneofs l.numbers l.place (map message_of (drop l.place l.oneofs))) ≡ map (text_at 1) (real_oneofs l.numbers 0 (map message_of l.oneofs))
