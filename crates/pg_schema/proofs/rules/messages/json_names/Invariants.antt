use Rattle.std.proofs.Common.{◌≡◌, take}
use Rattle.pg_schema.specs.rules.Messages.{json_names}
use Rattle.pg_schema.specs.inner.LentTexts.{lent}
use Rattle.pg_schema.proofs.rules.messages.json_names.Given as goal

abbrev pub invariant-loop-field : goal.invariant-loop-field
invariant-loop-field l = lent l.names.items ≡ json_names (take l.field-index l.fields)
