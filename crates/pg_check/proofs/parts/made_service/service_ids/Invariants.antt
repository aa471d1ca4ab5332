use Rattle.std.proofs.Common.{◌≡◌, ◌+◌, ◌++◌, length, map, drop}
use Rattle.pg_check.specs.parts.MadeServices.{service, service_ids}
use Rattle.pg_check.proofs.parts.made_service.service_ids.Given as goal

abbrev pub invariant-loop-index : goal.invariant-loop-index
invariant-loop-index l = l.ids.items ++ service_ids (length l.before + l.index) (map service (drop l.index l.services)) ≡ service_ids (length l.before) (map service l.services)
