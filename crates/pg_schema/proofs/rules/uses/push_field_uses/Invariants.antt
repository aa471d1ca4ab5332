use Rattle.std.proofs.Common.{◌≡◌, ◌++◌, take, map}
use Rattle.pg_schema.specs.rules.Uses.{field_use}
use Rattle.pg_schema.proofs.rules.uses.push_field_uses.Given as goal

abbrev pub invariant-loop-field : goal.invariant-loop-field
invariant-loop-field l = l.uses.items ≡ l.fn.uses.items ++ map field_use (take l.field-index l.fields)
