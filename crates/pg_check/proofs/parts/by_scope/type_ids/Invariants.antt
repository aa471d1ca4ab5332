use Rattle.std.proofs.Common.{◌≡◌, map, take}
use Rattle.pg_check.specs.parts.ByScope.{type_id}
use Rattle.pg_check.proofs.parts.by_scope.type_ids.Given as goal

abbrev pub invariant-loop-place : goal.invariant-loop-place
invariant-loop-place l = l.ids.items ≡ map type_id (take l.place-index l.places)
