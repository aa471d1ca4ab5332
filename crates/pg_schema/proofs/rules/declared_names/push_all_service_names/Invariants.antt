use Rattle.std.proofs.Common.{◌≡◌, ◌++◌, take, map}
use Rattle.std.specs.List.{flat_map}
use Rattle.std.specs.String.{string_bytes}
use Rattle.pg_schema.specs.rules.DeclaredNames.{service_names}
use Rattle.pg_schema.proofs.rules.declared_names.push_all_service_names.Given as goal

abbrev pub invariant-loop-service : goal.invariant-loop-service
invariant-loop-service l = map string_bytes l.names.items ≡ map string_bytes l.fn.names.items ++ flat_map service_names (take l.service-index l.services)
