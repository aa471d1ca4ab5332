use Rattle.std.proofs.Common.{◌≡◌, ◌++◌, take, map}
use Rattle.std.specs.String.{string_bytes}
use Rattle.pg_schema.specs.rules.DeclaredNames.{within}
use Rattle.pg_schema.specs.rules.DeclaredNames.{entry_names}
use Rattle.pg_schema.proofs.rules.declared_names.push_entry_names.Given as goal

abbrev pub invariant-loop-field : goal.invariant-loop-field
invariant-loop-field l = map string_bytes l.names.items ≡ map string_bytes l.fn.names.items ++ map (within l.scope) (entry_names (take l.field-index l.fields))
