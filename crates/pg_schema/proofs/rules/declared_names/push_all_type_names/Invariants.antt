use Rattle.std.proofs.Common.{◌≡◌, ◌++◌, take, map}
use Rattle.std.specs.List.{flat_map}
use Rattle.std.specs.String.{string_bytes}
use Rattle.pg_schema.specs.rules.DeclaredNames.{type_names}
use Rattle.pg_schema.proofs.rules.declared_names.push_all_type_names.Given as goal

abbrev pub invariant-loop-message_type : goal.invariant-loop-message_type
invariant-loop-message_type l = map string_bytes l.names.items ≡ map string_bytes l.fn.names.items ++ flat_map (type_names l.enums) (take l.message_type-index l.types)
