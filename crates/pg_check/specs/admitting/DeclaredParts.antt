-- What the rules read of message types, enums and files that come from no source file. None of it has a position.
use Rattle.std.specs.Prelude.{ℕ, suc, ℤ, pos, negsuc, true, false, map, string_bytes}
use Rattle.pg_schema.specs.declared.parts.enum_type.EnumType.{EnumType}
use Rattle.pg_schema.specs.declared.parts.enum_type.EnumValue.{EnumValue}
use Rattle.pg_schema.specs.declared.parts.enum_type.ReservedValues.{ReservedValues}
use Rattle.pg_schema.specs.declared.parts.field.Field.{Field}
use Rattle.pg_schema.specs.declared.parts.message_type.MessageType.{MessageType}
use Rattle.pg_schema.specs.declared.parts.message_type.ReservedFields.{ReservedFields}
use Rattle.pg_schema.specs.declared.parts.options.FileOption.{FileOption}
use Rattle.pg_schema.specs.rules.Fields.{stated_or}
use Rattle.pg_check.specs.declared.rules.numbers.Keyed.{Keyed}
use Rattle.pg_check.specs.declared.rules.numbers.Numbers.{Numbers}
use Rattle.pg_check.specs.rules.Enums as enums
use Rattle.pg_check.specs.rules.Messages as messages
use Rattle.pg_check.specs.rules.Names as names
use Rattle.pg_check.specs.rules.Numbers.{rank}

-- the one position of all that no source file declares
abbrev pub nowhere : ℕ
nowhere = 0

-- ---- message types

abbrev pub key_of : Field → Keyed
key_of f = record { key = rank false f.number; at = nowhere }

abbrev pub item_of : ReservedFields → Numbers
item_of r = record { first = rank false r.first; last = rank false r.last; at = nowhere }

abbrev pub name_of : Field → names.Named
name_of f = record { text = string_bytes f.name; at = nowhere }

abbrev pub json_name_of : Field → names.Named
json_name_of f = record { text = string_bytes f.json_name; at = nowhere }

-- the fields as the rules read them
abbrev pub declared_message : MessageType → messages.DeclaredMessage
declared_message t = record {
  keys = map key_of t.fields.items;
  items = map item_of t.reserved_numbers.items;
  names = map name_of t.fields.items;
  reserved_names = map string_bytes t.reserved_names.items;
  json_names = map json_name_of t.fields.items;
}

-- ---- enums

-- counted from -2^64
abbrev pub value_rank : ℤ → ℕ
value_rank (pos n) = rank false n
value_rank (negsuc n) = rank true (suc n)

abbrev pub value_key : EnumValue → Keyed
value_key v = record { key = value_rank v.number; at = nowhere }

abbrev pub value_item : ReservedValues → Numbers
value_item r = record { first = value_rank r.first; last = value_rank r.last; at = nowhere }

abbrev pub value_name : EnumValue → names.Named
value_name v = record { text = string_bytes v.name; at = nowhere }

-- an enum as the rules read it
abbrev pub declared_enum : EnumType → enums.DeclaredEnum
declared_enum e = record {
  keys = map value_key e.values.items;
  names = map value_name e.values.items;
  items = map value_item e.reserved_numbers.items;
  reserved_names = map string_bytes e.reserved_names.items;
  has_aliases = stated_or e.options.allow_alias false;
}

-- ---- files

abbrev pub option_key : FileOption → Keyed
option_key o = record { key = o.number; at = nowhere }
