use Rattle.std.proofs.Common.{◌≡◌, true, take}
use Rattle.std.specs.List.{list_all}
use Rattle.pg_schema.specs.rules.Enums.{is_enum}
use Rattle.pg_schema.proofs.rules.enums.are_enums.Given as goal

abbrev pub invariant-loop-enum_type : goal.invariant-loop-enum_type
invariant-loop-enum_type l = list_all (is_enum) (take l.enum_type-index l.enums) ≡ true
