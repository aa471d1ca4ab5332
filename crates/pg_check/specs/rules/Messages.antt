-- The rules of a message's own body (proto3 language specification, "Message definition"; proto3 language guide,
-- "Assigning Field Numbers", "Reserved Fields", "Oneof", "Maps", "JSON Mapping"; Encoding guide, "Packed Repeated
-- Fields").
use Rattle.std.specs.Prelude.{ℕ, Bool, true, false, not, ◌&&◌, List, [], ◌∷◌, map, flat_map, codes, Option, Some, None, is_some, if◌then◌else◌}
use Rattle.pg_link.specs.declared.uses.target.Target.{Target}
use Rattle.pg_check.specs.declared.rules.numbers.Keyed.{Keyed}
use Rattle.pg_check.specs.declared.rules.numbers.Numbers.{Numbers}
use Rattle.pg_check.specs.declared.rules.options.Owner.TheVariants as owners
use Rattle.pg_syntax.specs.declared.tree as tree
use Rattle.pg_syntax.specs.declared.tree.Label.{Label}
use Rattle.pg_syntax.specs.declared.tree.Label.TheVariants as labels
use Rattle.pg_syntax.specs.declared.tree.OneofPart.TheVariants as oneof_parts
use Rattle.pg_syntax.specs.declared.tree.Part.{Part}
use Rattle.pg_syntax.specs.declared.tree.Part.TheVariants as parts
use Rattle.pg_check.specs.rules.Enums.{is_true}
use Rattle.pg_check.specs.rules.Members.{DeclaredField, Plain, Mapped, members, key_of, named, json_named, oneof_in}
use Rattle.pg_check.specs.rules.Names.{Named}
use Rattle.pg_check.specs.rules.Numbers as numbers
use Rattle.pg_check.specs.rules.Options.{OptionAt, in_line, is_word}
use Rattle.pg_check.specs.rules.ReservedItems.{numbers_in, names_in}
use Rattle.pg_check.specs.rules.Types.{is_key_type, is_packable_type}

-- ---- what a body has beside its fields

abbrev pub in_reserved : {X : Type 0} → (tree.Reserved.Reserved → List X) → Part → List X
in_reserved list (parts.Empty span) = []
in_reserved list (parts.Message' name shape row span) = []
in_reserved list (parts.Enum e) = []
in_reserved list (parts.Oneof o) = []
in_reserved list (parts.Option o) = []
in_reserved list (parts.Reserved r) = list r
in_reserved list (parts.Map m) = []
in_reserved list (parts.Field f) = []

abbrev pub items_in : Part → List Numbers
items_in = in_reserved (λ r. numbers_in numbers.highest_field r.items)

abbrev pub items : List Part → List Numbers
items body = flat_map items_in body

abbrev pub reserved_names_in : Part → List (List ℕ)
reserved_names_in = in_reserved (λ r. names_in r.items)

abbrev pub reserved_names : List Part → List (List ℕ)
reserved_names body = flat_map reserved_names_in body

abbrev pub option_in : Part → List tree.OptionLine.OptionLine
option_in (parts.Empty span) = []
option_in (parts.Message' name shape row span) = []
option_in (parts.Enum e) = []
option_in (parts.Oneof o) = []
option_in (parts.Option o) = o ∷ []
option_in (parts.Reserved r) = []
option_in (parts.Map m) = []
option_in (parts.Field f) = []

abbrev pub lines_in : Part → List OptionAt
lines_in p = map (in_line owners.Message) (option_in p)

-- the option statements of the message
abbrev pub lines : List Part → List OptionAt
lines body = flat_map lines_in body

abbrev pub oneofs : List Part → List tree.Oneof.Oneof
oneofs body = flat_map oneof_in body

-- ---- what the rules see of the fields, whether a source file or a descriptor set declares them

pub record DeclaredMessage : Type 0 where
  pub keys : List Keyed
  pub items : List Numbers
  pub names : List Named
  pub reserved_names : List (List ℕ)
  pub json_names : List Named

abbrev pub declared : List Part → DeclaredMessage
declared body = record {
  keys = map key_of (members body);
  items = items body;
  names = map named (members body);
  reserved_names = reserved_names body;
  json_names = map json_named (members body);
}

-- ---- oneofs

abbrev pub is_member : tree.OneofPart.OneofPart → Bool
is_member (oneof_parts.Empty span) = false
is_member (oneof_parts.Option o) = false
is_member (oneof_parts.Map m) = true
is_member (oneof_parts.Field f) = true

abbrev pub has_member : List tree.OneofPart.OneofPart → Bool
has_member [] = false
has_member (p ∷ ps) = if is_member p then true else has_member ps

-- a member of a oneof is neither a map nor `repeated` or `optional`
abbrev pub is_bad_member : DeclaredField → Bool
is_bad_member (Plain f oneof) = is_some oneof && is_some f.label
is_bad_member (Mapped m oneof) = is_some oneof

-- ---- fields

-- a map with a key of no integral type, bool or string
abbrev pub has_bad_key : DeclaredField → Bool
has_bad_key (Plain f oneof) = false
has_bad_key (Mapped m oneof) = not (is_key_type m.key.value)

abbrev pub is_repeated : Option Label → Bool
is_repeated None = false
is_repeated (Some labels.Repeated) = true
is_repeated (Some labels.Optional) = false

-- a repeated field of numbers, bool or an enum
abbrev pub may_be_packed : (ℕ → Option Target) → DeclaredField → Bool
may_be_packed targets (Plain f oneof) = is_repeated f.label && is_packable_type targets f.type_name
may_be_packed targets (Mapped m oneof) = false

abbrev pub states_packed : tree.Setting.Setting → Bool
states_packed s = is_word (codes "packed") s.name && is_true s.value
