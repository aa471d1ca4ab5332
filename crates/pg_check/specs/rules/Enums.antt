-- Enums (proto3 language specification, "Enum definition"; proto3 language guide, "Enumerations", "Reserved Values").
use Rattle.std.specs.List.{list_any}
use Rattle.std.specs.Prelude.{ℕ, Bool, true, false, ◌&&◌, List, [], ◌∷◌, map, flat_map, codes, string_bytes}
use Rattle.pg_check.specs.declared.rules.numbers.Keyed.{Keyed}
use Rattle.pg_check.specs.declared.rules.numbers.Numbers.{Numbers}
use Rattle.pg_check.specs.declared.rules.options.Owner.TheVariants as owners
use Rattle.pg_syntax.specs.declared.tree as tree
use Rattle.pg_syntax.specs.declared.tree.EnumPart.TheVariants as parts
use Rattle.pg_syntax.specs.declared.tree.Value.TheVariants as values
use Rattle.pg_check.specs.rules.Names as names
use Rattle.pg_check.specs.rules.Numbers as numbers
use Rattle.pg_check.specs.rules.Options.{OptionAt, in_line, is_word}
use Rattle.pg_check.specs.rules.ReservedItems.{numbers_in, names_in}

abbrev pub Part : Type 0
Part = tree.EnumPart.EnumPart

abbrev pub value_in : Part → List tree.EnumValue.EnumValue
value_in (parts.Empty span) = []
value_in (parts.Option o) = []
value_in (parts.Reserved r) = []
value_in (parts.Value v) = v ∷ []

abbrev pub key_of : tree.EnumValue.EnumValue → Keyed
key_of v = record { key = numbers.rank_of v.number; at = v.name.span.from }

abbrev pub name_of : tree.EnumValue.EnumValue → names.Named
name_of v = record { text = string_bytes v.name.text; at = v.name.span.from }

-- the values' numbers and names, in order of declaration
abbrev pub keys_in : Part → List Keyed
keys_in p = map key_of (value_in p)

abbrev pub keys : List Part → List Keyed
keys body = flat_map keys_in body

abbrev pub value_names_in : Part → List names.Named
value_names_in p = map name_of (value_in p)

abbrev pub value_names : List Part → List names.Named
value_names body = flat_map value_names_in body

-- what is reserved
abbrev pub items_in : Part → List Numbers
items_in (parts.Empty span) = []
items_in (parts.Option o) = []
items_in (parts.Reserved r) = numbers_in numbers.highest_value r.items
items_in (parts.Value v) = []

abbrev pub items : List Part → List Numbers
items body = flat_map items_in body

abbrev pub reserved_names_in : Part → List (List ℕ)
reserved_names_in (parts.Empty span) = []
reserved_names_in (parts.Option o) = []
reserved_names_in (parts.Reserved r) = names_in r.items
reserved_names_in (parts.Value v) = []

abbrev pub reserved_names : List Part → List (List ℕ)
reserved_names body = flat_map reserved_names_in body

-- the option statements
abbrev pub lines_in : Part → List OptionAt
lines_in (parts.Empty span) = []
lines_in (parts.Option o) = in_line owners.Enum o ∷ []
lines_in (parts.Reserved r) = []
lines_in (parts.Value v) = []

abbrev pub lines : List Part → List OptionAt
lines body = flat_map lines_in body

-- `allow_alias = true` is stated
abbrev pub is_true : tree.Value.Value → Bool
is_true (values.Name d) = is_word (codes "true") d
is_true (values.Text t) = false
is_true (values.Number n) = false

abbrev pub allows_alias : Part → Bool
allows_alias (parts.Empty span) = false
allows_alias (parts.Option o) = is_word (codes "allow_alias") o.setting.name && is_true o.setting.value
allows_alias (parts.Reserved r) = false
allows_alias (parts.Value v) = false

abbrev pub has_aliases : List Part → Bool
has_aliases body = list_any allows_alias body

-- ---- what the rules see of an enum, whether a source file or a descriptor set declares it

pub record DeclaredEnum : Type 0 where
  pub keys : List Keyed
  pub names : List names.Named
  pub items : List Numbers
  pub reserved_names : List (List ℕ)
  pub has_aliases : Bool

abbrev pub declared : List Part → DeclaredEnum
declared body = record {
  keys = keys body;
  names = value_names body;
  items = items body;
  reserved_names = reserved_names body;
  has_aliases = has_aliases body;
}
