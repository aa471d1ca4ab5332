use Rattle.std.proofs.Common.{◌≡◌, ◌++◌, take, map}
use Rattle.std.specs.String.{string_bytes}
use Rattle.pg_schema.specs.declared.parts.enum_type.EnumType.{EnumType}
use Rattle.pg_schema.proofs.rules.declared_names.push_enum_names.Given as goal

abbrev pub invariant-loop-enum_type : goal.invariant-loop-enum_type
invariant-loop-enum_type l = map string_bytes l.names.items ≡ map string_bytes l.fn.names.items ++ map (λ (e : EnumType). string_bytes e.name) (take l.enum_type-index l.enums)
