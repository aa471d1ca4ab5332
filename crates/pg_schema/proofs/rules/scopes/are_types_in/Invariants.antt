use Rattle.std.proofs.Common.{◌≡◌, true, take}
use Rattle.std.specs.List.{list_all}
use Rattle.pg_schema.specs.rules.Scopes.{is_named_in, type_name}
use Rattle.pg_schema.proofs.rules.scopes.are_types_in.Given as goal

abbrev pub invariant-loop-id : goal.invariant-loop-id
invariant-loop-id l = list_all (λ id. is_named_in l.scope (type_name l.types id)) (take l.id-index l.ids) ≡ true
