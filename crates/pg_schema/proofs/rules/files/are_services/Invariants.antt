use Rattle.std.proofs.Common.{◌≡◌, true, take}
use Rattle.std.specs.List.{list_all}
use Rattle.pg_schema.specs.rules.Files.{is_service}
use Rattle.pg_schema.proofs.rules.files.are_services.Given as goal

abbrev pub invariant-loop-service : goal.invariant-loop-service
invariant-loop-service l = list_all (is_service l.types) (take l.service-index l.services) ≡ true
