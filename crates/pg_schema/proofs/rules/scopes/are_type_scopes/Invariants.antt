use Rattle.std.proofs.Common.{◌≡◌, true, take}
use Rattle.std.specs.List.{list_all}
use Rattle.pg_schema.specs.rules.Scopes.{is_type_scope}
use Rattle.pg_schema.proofs.rules.scopes.are_type_scopes.Given as goal

abbrev pub invariant-loop-message_type : goal.invariant-loop-message_type
invariant-loop-message_type l = list_all (is_type_scope l.types l.enums) (take l.message_type-index l.types) ≡ true
