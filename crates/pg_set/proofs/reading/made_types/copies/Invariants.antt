use Rattle.std.proofs.Common.{◌≡◌, map, take}
use Rattle.std.specs.String.{string_bytes}
use Rattle.pg_set.specs.inner.Lent.{lent}
use Rattle.pg_set.proofs.reading.made_types.copies.Given as goal

abbrev pub invariant-loop-text : goal.invariant-loop-text
invariant-loop-text l = map string_bytes l.copies.items ≡ lent (take l.text-index l.texts)
