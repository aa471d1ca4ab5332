-- Options (proto3 language specification, "Option"; descriptor.proto, `FileOptions` and the like). Which are taken,
-- that each is stated once where it may be, and that none is in a oneof, is this profile's choice.
use Rattle.std.specs.Prelude.{ℕ, Bool, true, false, ◌&&◌, ◌||◌, List, [], ◌∷◌, find, map, option_map, codes, Option, Some, None, string_bytes, if◌then◌else◌}
use Rattle.std.specs.Str.{bytes_eq}
use Rattle.pg_check.specs.declared.rules.options.Kind.{Kind}
use Rattle.pg_check.specs.declared.rules.options.Kind.TheVariants as kinds
use Rattle.pg_check.specs.declared.rules.options.Known.{Known}
use Rattle.pg_check.specs.declared.rules.options.Owner.{Owner}
use Rattle.pg_check.specs.declared.rules.options.Owner.TheVariants as owners
use Rattle.pg_syntax.specs.declared.tree as tree
use Rattle.pg_syntax.specs.declared.tree.Value.TheVariants as values
use Rattle.pg_check.specs.rules.Names.{Named}

pub record Entry : Type 0 where
  pub name : List ℕ
  pub known : Known

abbrev pub named : List ℕ → ℕ → Kind → Entry
named name number kind = record { name = name; known = record { number = number; kind = kind } }

abbrev pub deprecated : ℕ → Entry
deprecated number = named (codes "deprecated") number kinds.Flag

abbrev pub an_option : ℕ → Kind → Option Known
an_option number kind = Some (record { number = number; kind = kind })

-- the options that may be stated, by their field numbers in descriptor.proto; `json_name` is the field's own
abbrev pub options_of : Owner → List Entry
options_of owners.File = named (codes "java_package") 1 kinds.Text ∷ named (codes "java_outer_classname") 8 kinds.Text
    ∷ named (codes "optimize_for") 9 kinds.Mode ∷ named (codes "java_multiple_files") 10 kinds.Flag
    ∷ named (codes "go_package") 11 kinds.Text ∷ deprecated 23 ∷ named (codes "cc_enable_arenas") 31 kinds.Flag
    ∷ named (codes "objc_class_prefix") 36 kinds.Text ∷ named (codes "csharp_namespace") 37 kinds.Text
    ∷ named (codes "swift_prefix") 39 kinds.Text ∷ named (codes "php_class_prefix") 40 kinds.Text
    ∷ named (codes "php_namespace") 41 kinds.Text ∷ named (codes "ruby_package") 45 kinds.Text ∷ []
options_of owners.Message = deprecated 3 ∷ []
options_of owners.Field =
    named (codes "packed") 2 kinds.Flag ∷ deprecated 3 ∷ named (codes "json_name") 10 kinds.Text ∷ []
options_of owners.Oneof = []
options_of owners.Enum = named (codes "allow_alias") 2 kinds.Flag ∷ deprecated 3 ∷ []
options_of owners.EnumValue = deprecated 1 ∷ []
options_of owners.Service = deprecated 33 ∷ []
options_of owners.Method = deprecated 33 ∷ []

-- the option of the table that has this name
abbrev pub known_among : List Entry → List ℕ → Option Known
known_among table name = option_map (λ (o : Entry). o.known) (find (λ (o : Entry). bytes_eq name o.name) table)

unfoldable pub option_named : Owner → List ℕ → Option Known
option_named owner name = known_among (options_of owner) name

-- ---- values

abbrev pub is_alone : List tree.Name.Name → Bool
is_alone [] = true
is_alone (name ∷ names) = false

-- one word without a dot
abbrev pub is_word : List ℕ → tree.Dotted.Dotted → Bool
is_word word d = is_alone d.more.items && bytes_eq (string_bytes d.first.text) word

abbrev pub is_flag : tree.Dotted.Dotted → Bool
is_flag d = is_word (codes "true") d || is_word (codes "false") d

abbrev pub is_mode : tree.Dotted.Dotted → Bool
is_mode d = is_word (codes "SPEED") d || (is_word (codes "CODE_SIZE") d || is_word (codes "LITE_RUNTIME") d)

-- the value is of the kind
abbrev pub is_of_kind : Kind → tree.Value.Value → Bool
is_of_kind kinds.Flag (values.Name d) = is_flag d
is_of_kind kinds.Flag (values.Text t) = false
is_of_kind kinds.Flag (values.Number n) = false
is_of_kind kinds.Mode (values.Name d) = is_mode d
is_of_kind kinds.Mode (values.Text t) = false
is_of_kind kinds.Mode (values.Number n) = false
is_of_kind kinds.Text (values.Name d) = false
is_of_kind kinds.Text (values.Text t) = true
is_of_kind kinds.Text (values.Number n) = false

abbrev pub is_of : Option Known → tree.Value.Value → Bool
is_of None value = false
is_of (Some k) value = is_of_kind k.kind value

abbrev pub known_by : Owner → tree.Dotted.Dotted → Option Known
known_by owner d = if is_alone d.more.items then option_named owner (string_bytes d.first.text) else None

-- the owner has such an option, and the value is of its kind
abbrev pub is_right : Owner → tree.Setting.Setting → Bool
is_right owner s = is_of (known_by owner s.name) s.value

-- ---- options as they are stated

-- an option by the first identifier of its name, whether it is a right one, and where it is
pub record OptionAt : Type 0 where
  pub name : List ℕ
  pub is_right : Bool
  pub at : ℕ

abbrev pub option_at : Owner → ℕ → tree.Setting.Setting → OptionAt
option_at owner at s = record { name = string_bytes s.name.first.text; is_right = is_right owner s; at = at }

-- in brackets an option is where its name is
abbrev pub in_brackets : Owner → tree.Setting.Setting → OptionAt
in_brackets owner s = option_at owner s.span.from s

abbrev pub in_settings : Owner → Option tree.Settings.Settings → List OptionAt
in_settings owner None = []
in_settings owner (Some s) = in_brackets owner s.first.value ∷ map (in_brackets owner) s.more.items

-- as a statement it is at the word `option`
abbrev pub in_line : Owner → tree.OptionLine.OptionLine → OptionAt
in_line owner o = option_at owner o.span.from o.setting

abbrev pub name_of : OptionAt → Named
name_of o = record { text = o.name; at = o.at }
