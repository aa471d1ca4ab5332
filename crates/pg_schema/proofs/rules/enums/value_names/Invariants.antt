use Rattle.std.proofs.Common.{◌≡◌, take}
use Rattle.pg_schema.specs.rules.Enums.{value_names}
use Rattle.pg_schema.specs.inner.LentTexts.{lent}
use Rattle.pg_schema.proofs.rules.enums.value_names.Given as goal

abbrev pub invariant-loop-value : goal.invariant-loop-value
invariant-loop-value l = lent l.names.items ≡ value_names (take l.value-index l.values)
