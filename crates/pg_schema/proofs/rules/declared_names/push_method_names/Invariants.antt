use Rattle.std.proofs.Common.{◌≡◌, ◌++◌, take, map}
use Rattle.std.specs.String.{string_bytes}
use Rattle.pg_schema.specs.rules.DeclaredNames.{within}
use Rattle.pg_schema.specs.rules.DeclaredNames.{method_names}
use Rattle.pg_schema.proofs.rules.declared_names.push_method_names.Given as goal

abbrev pub invariant-loop-method : goal.invariant-loop-method
invariant-loop-method l = map string_bytes l.names.items ≡ map string_bytes l.fn.names.items ++ map (within l.scope) (method_names (take l.method-index l.methods))
