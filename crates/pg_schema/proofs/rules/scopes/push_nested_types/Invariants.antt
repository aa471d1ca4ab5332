use Rattle.std.proofs.Common.{◌≡◌, ◌++◌, take}
use Rattle.pg_schema.specs.rules.Scopes.{nested_types}
use Rattle.pg_schema.proofs.rules.scopes.push_nested_types.Given as goal

abbrev pub invariant-loop-message_type : goal.invariant-loop-message_type
invariant-loop-message_type l = l.places.items ≡ l.fn.places.items ++ nested_types (take l.message_type-index l.types)
