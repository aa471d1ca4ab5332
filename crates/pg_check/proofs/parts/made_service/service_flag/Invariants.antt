use Rattle.std.proofs.Common.{◌≡◌, drop}
use Rattle.pg_check.specs.parts.MadeServices.{service_flag}
use Rattle.pg_check.proofs.parts.made_service.service_flag.Given as goal

abbrev pub invariant-loop-part : goal.invariant-loop-part
invariant-loop-part l = service_flag (drop l.part-index l.body) ≡ service_flag l.body
