-- The fields of a message, also maps and members of its oneofs, in order of declaration (proto3 language specification,
-- "Message definition", "Oneof and oneof field", "Map field"; proto3 language guide, "JSON Mapping").
use Rattle.std.specs.Prelude.{ℕ, ◌+◌, false, List, [], ◌∷◌, ◌++◌, flat_map, codes, length, Option, Some, None, string_bytes, if◌then◌else◌}
use Rattle.pg_schema.specs.JsonName.{default_json_name}
use Rattle.pg_check.specs.declared.rules.numbers.Keyed.{Keyed}
use Rattle.pg_syntax.specs.declared.tree as tree
use Rattle.pg_syntax.specs.declared.tree.OneofPart.TheVariants as oneof_parts
use Rattle.pg_syntax.specs.declared.tree.Part.{Part}
use Rattle.pg_syntax.specs.declared.tree.Part.TheVariants as parts
use Rattle.pg_syntax.specs.declared.tree.Value.TheVariants as values
use Rattle.pg_check.specs.rules.Names.{Named}
use Rattle.pg_check.specs.rules.Numbers.{rank}
use Rattle.pg_check.specs.rules.Options.{is_word}
use Rattle.pg_check.specs.rules.ReservedItems.{text_of}

-- a field or a map, with the index of its oneof among the message's
pub data DeclaredField : Type 0 where
  Plain : tree.Field.Field → Option ℕ → DeclaredField
  Mapped : tree.MapField.MapField → Option ℕ → DeclaredField

abbrev pub oneof_members_in : ℕ → tree.OneofPart.OneofPart → List DeclaredField
oneof_members_in place (oneof_parts.Empty span) = []
oneof_members_in place (oneof_parts.Option o) = []
oneof_members_in place (oneof_parts.Map m) = Mapped m (Some place) ∷ []
oneof_members_in place (oneof_parts.Field f) = Plain f (Some place) ∷ []

abbrev pub oneof_members : ℕ → List tree.OneofPart.OneofPart → List DeclaredField
oneof_members place body = flat_map (oneof_members_in place) body

-- where so many oneofs come before
abbrev pub members_in : ℕ → Part → List DeclaredField
members_in place (parts.Empty span) = []
members_in place (parts.Message' name shape row span) = []
members_in place (parts.Enum e) = []
members_in place (parts.Oneof o) = oneof_members place o.parts.items
members_in place (parts.Option o) = []
members_in place (parts.Reserved r) = []
members_in place (parts.Map m) = Mapped m None ∷ []
members_in place (parts.Field f) = Plain f None ∷ []

abbrev pub oneof_in : Part → List tree.Oneof.Oneof
oneof_in (parts.Empty span) = []
oneof_in (parts.Message' name shape row span) = []
oneof_in (parts.Enum e) = []
oneof_in (parts.Oneof o) = o ∷ []
oneof_in (parts.Option o) = []
oneof_in (parts.Reserved r) = []
oneof_in (parts.Map m) = []
oneof_in (parts.Field f) = []

abbrev pub oneofs_in : Part → ℕ
oneofs_in p = length (oneof_in p)

abbrev pub members_from : ℕ → List Part → List DeclaredField
members_from place [] = []
members_from place (p ∷ ps) = members_in place p ++ members_from (place + oneofs_in p) ps

abbrev pub members : List Part → List DeclaredField
members body = members_from 0 body

-- ---- of one member

abbrev pub name_of : DeclaredField → tree.Name.Name
name_of (Plain f oneof) = f.name
name_of (Mapped m oneof) = m.name

abbrev pub number_of : DeclaredField → ℕ
number_of (Plain f oneof) = f.number
number_of (Mapped m oneof) = m.number

abbrev pub settings_of : DeclaredField → Option tree.Settings.Settings
settings_of (Plain f oneof) = f.settings
settings_of (Mapped m oneof) = m.settings

abbrev pub place_of : DeclaredField → ℕ
place_of m = (name_of m).span.from

abbrev pub key_of : DeclaredField → Keyed
key_of m = record { key = rank false (number_of m); at = place_of m }

abbrev pub named : DeclaredField → Named
named m = record { text = string_bytes (name_of m).text; at = place_of m }

-- ---- JSON names

abbrev pub settings : Option tree.Settings.Settings → List tree.Setting.Setting
settings None = []
settings (Some s) = s.first.value ∷ s.more.items

abbrev pub text_value : tree.Value.Value → Option (List ℕ)
text_value (values.Name d) = None
text_value (values.Text t) = Some (text_of t)
text_value (values.Number n) = None

abbrev pub json_text : tree.Setting.Setting → Option (List ℕ)
json_text s = if is_word (codes "json_name") s.name then text_value s.value else None

abbrev pub or_given : Option (List ℕ) → Option (List ℕ) → Option (List ℕ)
or_given None other = other
or_given (Some text) other = Some text

-- the JSON name that is given, in the first option that gives one
abbrev pub given_json : List tree.Setting.Setting → Option (List ℕ)
given_json [] = None
given_json (s ∷ ss) = or_given (json_text s) (given_json ss)

abbrev pub json_or : Option (List ℕ) → List ℕ → List ℕ
json_or None name = default_json_name name
json_or (Some text) name = text

-- the JSON name, given or default
abbrev pub json_name : DeclaredField → List ℕ
json_name m = json_or (given_json (settings (settings_of m))) (string_bytes (name_of m).text)

abbrev pub json_named : DeclaredField → Named
json_named m = record { text = json_name m; at = place_of m }
