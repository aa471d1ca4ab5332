use Rattle.std.proofs.Common.{◌≡◌, true, take}
use Rattle.std.specs.List.{list_all}
use Rattle.pg_schema.specs.rules.Scopes.{is_named_in, service_name}
use Rattle.pg_schema.proofs.rules.scopes.are_services_in.Given as goal

abbrev pub invariant-loop-id : goal.invariant-loop-id
invariant-loop-id l = list_all (λ id. is_named_in l.scope (service_name l.services id)) (take l.id-index l.ids) ≡ true
