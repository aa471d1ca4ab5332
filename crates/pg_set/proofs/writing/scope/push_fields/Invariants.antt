use Rattle.std.proofs.Common.{◌≡◌, ◌++◌, take, map}
use Rattle.std.specs.String.{string_bytes}
use Rattle.pg_schema.specs.rules.Messages.{field_names}
use Rattle.pg_set.proofs.writing.scope.push_fields.Given as goal

abbrev pub invariant-loop-field : goal.invariant-loop-field
invariant-loop-field l = map string_bytes l.names.items ≡ map string_bytes l.fn.names.items ++ field_names (take l.field-index l.fields)
