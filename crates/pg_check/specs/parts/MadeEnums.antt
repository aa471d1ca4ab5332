-- What an enum declares, as a schema has it (proto3 language specification, "Enum definition").
use Rattle.std.specs.Prelude.{ℕ, ℤ, Bool, List, [], ◌∷◌, map, flat_map, codes, Option, string_bytes}
use Rattle.pg_schema.specs.declared.parts.enum_type.EnumType.{EnumType}
use Rattle.pg_schema.specs.declared.parts.enum_type.EnumValue.{EnumValue}
use Rattle.pg_schema.specs.declared.parts.enum_type.ReservedValues.{ReservedValues}
use Rattle.pg_schema.specs.declared.parts.options.EnumOptions.{EnumOptions}
use Rattle.pg_schema.specs.declared.parts.options.EnumValueOptions.{EnumValueOptions}
use Rattle.pg_check.specs.rules.Enums as rules
use Rattle.pg_check.specs.parts.MadeNumbers.{value_number, value_range}
use Rattle.pg_check.specs.parts.MadeOptions.{flag_of}
use Rattle.pg_check.specs.rules.Members.{settings}
use Rattle.pg_check.specs.rules.Numbers.{rank_of}
use Rattle.pg_check.specs.rules.Outline.{Enum}
use Rattle.pg_syntax.specs.declared.tree as tree
use Rattle.pg_syntax.specs.declared.tree.EnumPart.TheVariants as parts

pub record MadeValue : Type 0 where
  pub name : List ℕ
  pub number : ℤ
  pub options : EnumValueOptions

pub record MadeEnum : Type 0 where
  pub name : List ℕ
  pub values : List MadeValue
  pub reserved_numbers : List ReservedValues
  pub reserved_names : List (List ℕ)
  pub options : EnumOptions

-- ---- what a schema has

abbrev pub value : EnumValue → MadeValue
value v = record { name = string_bytes v.name; number = v.number; options = v.options }

abbrev pub enumeration : EnumType → MadeEnum
enumeration e = record {
  name = string_bytes e.name;
  values = map value e.values.items;
  reserved_numbers = e.reserved_numbers.items;
  reserved_names = map string_bytes e.reserved_names.items;
  options = e.options;
}

-- ---- what is declared

abbrev pub made_value : tree.EnumValue.EnumValue → MadeValue
made_value v = record {
  name = string_bytes v.name.text;
  number = value_number (rank_of v.number);
  options = record { deprecated = flag_of (codes "deprecated") (settings v.settings) };
}

abbrev pub made_values_in : rules.Part → List MadeValue
made_values_in p = map made_value (rules.value_in p)

abbrev pub made_values : List rules.Part → List MadeValue
made_values body = flat_map made_values_in body

abbrev pub setting_in : rules.Part → List tree.Setting.Setting
setting_in (parts.Empty span) = []
setting_in (parts.Option o) = o.setting ∷ []
setting_in (parts.Reserved r) = []
setting_in (parts.Value v) = []

-- the option statements
abbrev pub body_settings : List rules.Part → List tree.Setting.Setting
body_settings body = flat_map setting_in body

abbrev pub body_flag : List ℕ → List rules.Part → Option Bool
body_flag name body = flag_of name (body_settings body)

abbrev pub reserved_numbers : List rules.Part → List ReservedValues
reserved_numbers body = map value_range (rules.items body)

abbrev pub enum_options : List rules.Part → EnumOptions
enum_options body = record {
  allow_alias = body_flag (codes "allow_alias") body;
  deprecated = body_flag (codes "deprecated") body;
}

abbrev pub made_body : List ℕ → List rules.Part → MadeEnum
made_body full body = record {
  name = full;
  values = made_values body;
  reserved_numbers = reserved_numbers body;
  reserved_names = rules.reserved_names body;
  options = enum_options body;
}

abbrev pub made_enum : Enum → MadeEnum
made_enum e = made_body e.full e.tree.parts.items
