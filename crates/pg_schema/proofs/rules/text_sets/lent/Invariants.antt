use Rattle.std.proofs.Common.{◌≡◌, map, take}
use Rattle.std.specs.String.{string_bytes}
use Rattle.pg_schema.specs.inner.LentTexts.{lent}
use Rattle.pg_schema.proofs.rules.text_sets.lent.Given as goal

abbrev pub invariant-loop-text : goal.invariant-loop-text
invariant-loop-text l = lent l.found.items ≡ map string_bytes (take l.text-index l.texts)
