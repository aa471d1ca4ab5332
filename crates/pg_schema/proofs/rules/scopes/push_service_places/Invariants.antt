use Rattle.std.proofs.Common.{◌≡◌, ◌++◌, take}
use Rattle.pg_schema.specs.rules.Scopes.{service_places}
use Rattle.pg_schema.proofs.rules.scopes.push_service_places.Given as goal

abbrev pub invariant-loop-id : goal.invariant-loop-id
invariant-loop-id l = l.places.items ≡ l.fn.places.items ++ service_places (take l.id-index l.ids)
