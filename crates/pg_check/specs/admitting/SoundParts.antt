-- Numbers of enums as a program has them. Each is an int32 there, which the facts of a schema don't say again.
use Rattle.std.specs.Prelude.{◌≡◌, ℤ, Bool, true, ◌&&◌}
use Rattle.std.specs.List.{list_all, AllByRecursion}
use Rattle.pg_schema.specs.declared.parts.enum_type.EnumType.{EnumType}
use Rattle.pg_schema.specs.declared.parts.enum_type.EnumValue.{EnumValue}
use Rattle.pg_schema.specs.declared.parts.enum_type.ReservedValues.{ReservedValues}
use Rattle.pg_schema.specs.declared.parts.Parts.{Parts}
use Rattle.pg_check.specs.admitting.DeclaredParts.{value_rank}
use Rattle.pg_check.specs.rules.Numbers.{highest_value, is_within, lowest_value}

-- -2,147,483,648 to 2,147,483,647
abbrev pub is_int32 : ℤ → Bool
is_int32 n = is_within lowest_value highest_value (value_rank n)

abbrev pub value_is_int32 : EnumValue → Bool
value_is_int32 v = is_int32 v.number

abbrev pub range_is_int32 : ReservedValues → Bool
range_is_int32 r = is_int32 r.first && is_int32 r.last

pub record HasInt32s (e : EnumType) : Type 0 where
  pub values : list_all value_is_int32 e.values.items ≡ true
  pub reserved : list_all range_is_int32 e.reserved_numbers.items ≡ true

abbrev pub HaveInt32s : Parts → Type 0
HaveInt32s parts = AllByRecursion HasInt32s parts.enums.items
