use Rattle.std.proofs.Common.{◌≡◌, ◌++◌, take, map}
use Rattle.std.specs.String.{string_bytes}
use Rattle.pg_schema.specs.rules.DeclaredNames.{within}
use Rattle.pg_schema.proofs.rules.declared_names.push_oneof_names.Given as goal

abbrev pub invariant-loop-oneof : goal.invariant-loop-oneof
invariant-loop-oneof l = map string_bytes l.names.items ≡ map string_bytes l.fn.names.items ++ map (within l.scope) (map string_bytes (take l.oneof-index l.oneofs))
