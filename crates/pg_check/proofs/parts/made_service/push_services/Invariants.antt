use Rattle.std.proofs.Common.{◌≡◌, ◌++◌, map, take}
use Rattle.pg_check.specs.parts.MadeServices.{made_services, service}
use Rattle.pg_check.proofs.parts.made_service.push_services.Given as goal
use Rattle.pg_check.specs.inner.Sources.{target_in}

abbrev pub invariant-loop-statement : goal.invariant-loop-statement
invariant-loop-statement l = map service l.services.items ≡ map service l.fn.services.items ++ made_services (target_in l.targets) l.scope (take l.statement-index l.statements)
