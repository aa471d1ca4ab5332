-- Files that keep to the rules, fact by fact (proto3 language guide, "Assigning Field Numbers", "Reserved Fields",
-- "Enumerations", "Oneof", "Maps", "JSON Mapping"; proto3 language specification, "Option"; Encoding guide, "Packed
-- Repeated Fields"). Which options are taken, and that there are at most 4,096 message types, is this profile's choice.
use Rattle.std.specs.Prelude.{◌≡◌, ◌≤◌, ℕ, Bool, true, false, not, nat_eq, nat_lt, ◌&&◌, ◌||◌, List, [], ◌∷◌, length, map, flat_map, Option}
use Rattle.std.specs.List.{list_all, AllByRecursion}
use Rattle.pg_schema.specs.rules.Pairs.{all_pairs}
use Rattle.pg_schema.specs.rules.TextSets.{is_among}
use Rattle.pg_link.specs.declared.uses.target.Target.{Target}
use Rattle.pg_check.specs.declared.rules.numbers.Keyed.{Keyed}
use Rattle.pg_check.specs.declared.rules.numbers.Numbers.{Numbers}
use Rattle.pg_check.specs.declared.rules.options.Owner.TheVariants as owners
use Rattle.pg_check.specs.rules.Enums as enums
use Rattle.pg_check.specs.rules.Files.{file_lines, rpc_body, rpc_lines, service_lines}
use Rattle.pg_check.specs.parts.MadeParts.{Source}
use Rattle.pg_check.specs.rules.Members.{DeclaredField, members, settings, settings_of}
use Rattle.pg_check.specs.rules.Messages as messages
use Rattle.pg_check.specs.rules.Names as names
use Rattle.pg_check.specs.rules.Numbers as numbers
use Rattle.pg_check.specs.rules.Options.{OptionAt, in_settings, name_of}
use Rattle.pg_check.specs.rules.Outline.{Enum, Message, file_messages, scoped_enums, statements_behind}
use Rattle.pg_check.specs.rules.ReservedItems.{overlap}
use Rattle.pg_syntax.specs.declared.tree as tree
use Rattle.pg_syntax.specs.declared.tree.EnumPart.TheVariants as enum_parts
use Rattle.pg_syntax.specs.declared.tree.OneofPart.TheVariants as oneof_parts
use Rattle.pg_syntax.specs.declared.tree.Part.{Part}
use Rattle.pg_syntax.specs.declared.tree.ServicePart.TheVariants as service_parts
use Rattle.pg_syntax.specs.declared.tree.Statement.TheVariants as statements

-- no item is the same as one before it
abbrev pub are_apart : {X : Type 0} → (X → X → Bool) → List X → Bool
are_apart same xs = all_pairs (λ a b. not (same b a)) xs

-- ---- reserved items, numbers and names

abbrev pub lies_within : (lowest highest : ℕ) → Numbers → Bool
lies_within lowest highest r = numbers.is_within lowest highest r.first && numbers.is_within lowest highest r.last

-- it doesn't end before it begins
abbrev pub rises : Numbers → Bool
rises r = not (nat_lt r.last r.first)

pub record ItemsKeep (lowest highest : ℕ) (items : List Numbers) : Type 0 where
  pub within : list_all (lies_within lowest highest) items ≡ true
  pub rising : list_all rises items ≡ true
  pub apart : are_apart overlap items ≡ true

abbrev pub is_free : List Numbers → Keyed → Bool
is_free reserved k = not (numbers.is_reserved reserved k.key)

abbrev pub is_free_name : List (List ℕ) → names.Named → Bool
is_free_name reserved n = not (is_among reserved n.text)

-- ---- options: each is known and of its kind, and is there once

abbrev pub is_right : OptionAt → Bool
is_right o = o.is_right

pub record OptionsKeep (options : List OptionAt) : Type 0 where
  pub right : list_all is_right options ≡ true
  pub once : are_apart names.is_same (map name_of options) ≡ true

-- ---- message types

abbrev pub is_no_option : tree.OneofPart.OneofPart → Bool
is_no_option (oneof_parts.Empty span) = true
is_no_option (oneof_parts.Option o) = false
is_no_option (oneof_parts.Map m) = true
is_no_option (oneof_parts.Field f) = true

-- a oneof has a member, and no option
abbrev pub oneof_keeps : tree.Oneof.Oneof → Bool
oneof_keeps o = messages.has_member o.parts.items && list_all is_no_option o.parts.items

abbrev pub has_field_number : Keyed → Bool
has_field_number k = numbers.is_field_number k.key

abbrev pub has_key : DeclaredField → Bool
has_key m = not (messages.has_bad_key m)

abbrev pub may_be_member : DeclaredField → Bool
may_be_member m = not (messages.is_bad_member m)

-- no `packed = true`, but on a repeated field of numbers, bool or an enum
abbrev pub is_packed_rightly : (ℕ → Option Target) → DeclaredField → Bool
is_packed_rightly targets m =
    messages.may_be_packed targets m || list_all (λ s. not (messages.states_packed s)) (settings (settings_of m))

abbrev pub member_options : DeclaredField → List OptionAt
member_options m = in_settings owners.Field (settings_of m)

pub record FieldsKeep (d : messages.DeclaredMessage) : Type 0 where
  pub numbers_fit : list_all has_field_number d.keys ≡ true
  pub numbers_once : are_apart numbers.is_same d.keys ≡ true
  pub numbers_free : list_all (is_free d.items) d.keys ≡ true
  pub names_free : list_all (is_free_name d.reserved_names) d.names ≡ true
  pub reserved : ItemsKeep numbers.lowest_field numbers.highest_field d.items
  pub json_names_once : are_apart names.is_same d.json_names ≡ true

pub record MessageKeeps (targets : ℕ → Option Target) (body : List Part) : Type 0 where
  pub fields : FieldsKeep (messages.declared body)
  pub map_keys : list_all has_key (members body) ≡ true
  pub oneof_members : list_all may_be_member (members body) ≡ true
  pub oneofs : list_all oneof_keeps (messages.oneofs body) ≡ true
  pub options : OptionsKeep (messages.lines body)
  pub field_options : AllByRecursion (λ m. OptionsKeep (member_options m)) (members body)
  pub packed : list_all (is_packed_rightly targets) (members body) ≡ true

-- ---- enums

abbrev pub has_some : List Keyed → Bool
has_some [] = false
has_some (k ∷ ks) = true

-- the first value, if there is one, is 0
abbrev pub begins_with_zero : List Keyed → Bool
begins_with_zero [] = true
begins_with_zero (k ∷ ks) = nat_eq k.key (numbers.rank false 0)

abbrev pub has_value_number : Keyed → Bool
has_value_number k = numbers.is_within numbers.lowest_value numbers.highest_value k.key

abbrev pub value_options : enums.Part → List OptionAt
value_options (enum_parts.Empty span) = []
value_options (enum_parts.Option o) = []
value_options (enum_parts.Reserved r) = []
value_options (enum_parts.Value v) = in_settings owners.EnumValue v.settings

pub record ValuesKeep (d : enums.DeclaredEnum) : Type 0 where
  pub has_values : has_some d.keys ≡ true
  pub first_value : begins_with_zero d.keys ≡ true
  pub numbers_fit : list_all has_value_number d.keys ≡ true
  pub numbers_free : list_all (is_free d.items) d.keys ≡ true
  pub names_free : list_all (is_free_name d.reserved_names) d.names ≡ true
  pub reserved : ItemsKeep numbers.lowest_value numbers.highest_value d.items
  pub aliases : (d.has_aliases || are_apart numbers.is_same d.keys) ≡ true

pub record EnumKeeps (body : List enums.Part) : Type 0 where
  pub values : ValuesKeep (enums.declared body)
  pub options : OptionsKeep (enums.lines body)
  pub value_options : AllByRecursion (λ p. OptionsKeep (value_options p)) body

-- ---- services and files

abbrev pub method_options : tree.ServicePart.ServicePart → List OptionAt
method_options (service_parts.Empty span) = []
method_options (service_parts.Option o) = []
method_options (service_parts.Rpc r) = rpc_lines (rpc_body r.body)

pub record ServiceKeeps (body : List tree.ServicePart.ServicePart) : Type 0 where
  pub options : OptionsKeep (service_lines body)
  pub method_options : AllByRecursion (λ p. OptionsKeep (method_options p)) body

abbrev pub StatementKeeps : tree.Statement.Statement → Type 0
StatementKeeps (statements.Empty span) = Unit {0}
StatementKeeps (statements.Import i) = Unit {0}
StatementKeeps (statements.Option o) = Unit {0}
StatementKeeps (statements.Message m) = Unit {0}
StatementKeeps (statements.Enum e) = Unit {0}
StatementKeeps (statements.Service s) = ServiceKeeps s.parts.items

pub record FileKeeps (s : Source) : Type 0 where
  pub messages : AllByRecursion (λ (m : Message). MessageKeeps s.targets m.body) (file_messages s.tree)
  pub enums : AllByRecursion (λ (e : Enum). EnumKeeps e.tree.parts.items) (scoped_enums s.tree)
  pub options : OptionsKeep (file_lines s.tree)
  pub front : AllByRecursion StatementKeeps s.tree.statements.items
  pub behind : AllByRecursion StatementKeeps (statements_behind s.tree.packaged)

abbrev pub source_messages : Source → List Message
source_messages s = file_messages s.tree

pub record KeepsRules (files : List Source) : Type 0 where
  pub few_types : length (flat_map source_messages files) ≤ 4096
  pub each : AllByRecursion FileKeeps files
