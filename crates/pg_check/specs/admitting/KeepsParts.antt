-- Parts that come from no source file and keep to the rules, fact by fact (proto3 language guide, "Assigning Field
-- Numbers", "Reserved Fields", "Enumerations", "Oneof", "Maps", "JSON Mapping"; proto3 language specification,
-- "Option"; Encoding guide, "Packed Repeated Fields"). That there are at most 4,096 message types is this profile's
-- choice.
use Rattle.std.specs.Prelude.{◌≡◌, ◌≤◌, Bool, true, false, not, ◌&&◌, ◌||◌, map, length, is_some}
use Rattle.std.specs.List.{list_all, AllByRecursion}
use Rattle.pg_schema.specs.declared.parts.enum_type.EnumType.{EnumType}
use Rattle.pg_schema.specs.declared.parts.field.Field.{Field}
use Rattle.pg_schema.specs.declared.parts.field.Presence.{Presence}
use Rattle.pg_schema.specs.declared.parts.field.Presence.TheVariants as presences
use Rattle.pg_schema.specs.declared.parts.file.File.{File}
use Rattle.pg_schema.specs.declared.parts.message_type.MessageType.{MessageType}
use Rattle.pg_schema.specs.declared.parts.Parts.{Parts}
use Rattle.pg_schema.specs.rules.Fields.{stated_or, is_key}
use Rattle.pg_schema.specs.rules.Files.{is_file_option}
use Rattle.pg_schema.specs.rules.Messages.{have_members}
use Rattle.pg_schema.specs.Shape.{is_packable, is_repeated, is_singular}
use Rattle.pg_check.specs.admitting.DeclaredParts.{declared_enum, declared_message, option_key}
use Rattle.pg_check.specs.rules.KeepsRules.{FieldsKeep, ValuesKeep, are_apart}
use Rattle.pg_check.specs.rules.Numbers as numbers

-- ---- message types

-- "Maps": the key of a map is of an integral type, bool or string
abbrev pub has_key : Presence → Bool
has_key presences.Implicit = true
has_key presences.Explicit = true
has_key (presences.Repeated packed) = true
has_key (presences.Map key) = is_key key

abbrev pub field_has_key : Field → Bool
field_has_key f = has_key f.presence

-- "Oneof": a member is singular, and isn't `optional`
abbrev pub may_be_member : Field → Bool
may_be_member f = not (is_some f.oneof) || (is_singular f.presence && not f.states_optional)

abbrev pub is_packed : Presence → Bool
is_packed presences.Implicit = false
is_packed presences.Explicit = false
is_packed (presences.Repeated packed) = packed
is_packed (presences.Map key) = false

-- "Packed Repeated Fields": what is packed, or states `packed = true`, is repeated and of numbers, bool or an enum
abbrev pub is_packed_rightly : Field → Bool
is_packed_rightly f =
    not (is_packed f.presence || stated_or f.options.packed false) || (is_repeated f.presence && is_packable f.element)

pub record KeepsType (t : MessageType) : Type 0 where
  -- the rules of numbers, names, JSON names and reserved items, as of a message in a source file
  pub fields : FieldsKeep (declared_message t)
  pub map_keys : list_all field_has_key t.fields.items ≡ true
  pub oneof_members : list_all may_be_member t.fields.items ≡ true
  -- "Oneof": each has a member
  pub oneofs : have_members (length t.oneofs.items) t.fields.items ≡ true
  pub packed : list_all is_packed_rightly t.fields.items ≡ true

-- ---- enums and files

-- "Enumerations", "Reserved Values": as of an enum in a source file
abbrev pub KeepsEnumType : EnumType → Type 0
KeepsEnumType e = ValuesKeep (declared_enum e)

-- "Option" (descriptor.proto, `FileOptions`): each option is known and of its kind, and is given once
pub record KeepsFilePart (f : File) : Type 0 where
  pub known : list_all is_file_option f.options.items ≡ true
  pub once : are_apart numbers.is_same (map option_key f.options.items) ≡ true

-- ---- all parts

-- Each part keeps to the rules, and there are no more message types than may be.
pub record KeepsAll (parts : Parts) : Type 0 where
  pub few_types : length parts.types.items ≤ 4096
  pub types : AllByRecursion KeepsType parts.types.items
  pub enums : AllByRecursion KeepsEnumType parts.enums.items
  pub files : AllByRecursion KeepsFilePart parts.files.items
