use Rattle.std.proofs.Common.{◌≡◌, map, take}
use Rattle.pg_check.specs.parts.ByScope.{enum_id}
use Rattle.pg_check.proofs.parts.by_scope.enum_ids.Given as goal

abbrev pub invariant-loop-place : goal.invariant-loop-place
invariant-loop-place l = l.ids.items ≡ map enum_id (take l.place-index l.places)
