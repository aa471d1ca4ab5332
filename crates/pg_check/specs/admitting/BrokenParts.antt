-- What each error says of parts that come from no source file: the fact that doesn't hold, by the words of the rules
-- that files keep to. Parts have no positions, so of each message type, enum and file the lowest code is reported
-- (proto3 language guide, "Assigning Field Numbers", "Reserved Fields", "Enumerations", "Oneof", "Maps", "JSON
-- Mapping"; proto3 language specification, "Option").
use Rattle.std.specs.Prelude.{◌≡◌, ◌≤◌, ◌<◌, ◌⊎◌, ℕ, true, false, [], map, length, is_some, string_bytes}
use Rattle.std.specs.List.{AllByRecursion}
use Rattle.pg_link.specs.declared.error.Place.{Place}
use Rattle.pg_schema.specs.declared.parts.enum_type.EnumType.{EnumType}
use Rattle.pg_schema.specs.declared.parts.field.Field.{Field}
use Rattle.pg_schema.specs.declared.parts.field.Presence.TheVariants as presences
use Rattle.pg_schema.specs.declared.parts.field.Scalar.{Scalar}
use Rattle.pg_schema.specs.declared.parts.file.File.{File}
use Rattle.pg_schema.specs.declared.parts.message_type.MessageType.{MessageType}
use Rattle.pg_schema.specs.declared.parts.options.FileOption.{FileOption}
use Rattle.pg_schema.specs.declared.parts.Parts.{Parts}
use Rattle.pg_schema.specs.rules.Fields.{stated_or, is_key}
use Rattle.pg_schema.specs.rules.Files.{is_file_option}
use Rattle.pg_schema.specs.rules.Messages.{have_members}
use Rattle.pg_schema.specs.Shape.{is_packable, is_repeated, is_singular}
use Rattle.pg_check.specs.admitting.DeclaredParts.{declared_enum, declared_message, nowhere, option_key}
use Rattle.pg_check.specs.admitting.KeepsParts.{KeepsEnumType, KeepsFilePart, KeepsType}
use Rattle.pg_check.specs.declared.error.CheckError.{CheckError}
use Rattle.pg_check.specs.declared.error.CheckError.TheVariants as errors
use Rattle.pg_check.specs.declared.rules.numbers.Keyed.{Keyed}
use Rattle.pg_check.specs.rules.BrokenRules.{BreaksFields, BreaksValues}
use Rattle.pg_check.specs.rules.Firsts.{IsBehind, IsFirstAgain, IsOneOf}
use Rattle.pg_check.specs.rules.Numbers as numbers

-- ---- message types

pub data BreaksType (t : MessageType) (place : Place) : CheckError → (code : ℕ) → Type 0 where
  in_fields : (e : CheckError) (code : ℕ) → BreaksFields (declared_message t) place e code nowhere nowhere
      → BreaksType t place e code
  -- a map's key that is no whole number, bool or string
  bad_map_key : (f : Field) (key : Scalar) → IsOneOf t.fields.items f → f.presence ≡ presences.Map key
      → is_key key ≡ false
      → BreaksType t place (errors.BadMapKey place) 407
  -- a member of a oneof that is repeated, a map or `optional`
  bad_oneof_member : (f : Field) → IsOneOf t.fields.items f → is_some f.oneof ≡ true
      → (is_singular f.presence ≡ false) ⊎ (f.states_optional ≡ true)
      → BreaksType t place (errors.BadOneofMember place) 408
  empty_oneof : have_members (length t.oneofs.items) t.fields.items ≡ false
      → BreaksType t place (errors.BadOneofMember place) 408
  -- packed, or stated to be, and not repeated or of items that need a record each
  packed_not_allowed : (f : Field) → IsOneOf t.fields.items f
      → (f.presence ≡ presences.Repeated true) ⊎ (stated_or f.options.packed false ≡ true)
      → (is_repeated f.presence ≡ false) ⊎ (is_packable f.element ≡ false)
      → BreaksType t place (errors.PackedNotAllowed place) 412

-- ---- enums and files

abbrev pub BreaksEnumType : EnumType → Place → CheckError → (code : ℕ) → Type 0
BreaksEnumType e place error code = BreaksValues (declared_enum e) nowhere place error code nowhere nowhere

pub data BreaksFilePart (f : File) (place : Place) : CheckError → (code : ℕ) → Type 0 where
  -- an option that is unknown, or of another kind of value
  bad_option : (o : FileOption) → IsOneOf f.options.items o → is_file_option o ≡ false
      → BreaksFilePart f place (errors.BadOption place) 411
  option_again : (k : Keyed) → IsFirstAgain numbers.is_same (map option_key f.options.items) k
      → BreaksFilePart f place (errors.BadOption place) 411

-- ---- all parts

-- More message types than may be come first; then of the message types, the enums and the files the first that breaks a
-- rule, and of it the lowest code.
pub data BreaksFirst (parts : Parts) (place : Place) : CheckError → Type 0 where
  too_many_types : 4096 < length parts.types.items → BreaksFirst parts place (errors.TooManyTypes place)
  in_type : (t : MessageType) (e : CheckError) (code : ℕ) → length parts.types.items ≤ 4096
      → IsBehind KeepsType parts.types.items t
      → BreaksType t place e code → ((other : CheckError) (c : ℕ) → BreaksType t place other c → code ≤ c)
      → BreaksFirst parts place e
  in_enum : (n : EnumType) (e : CheckError) (code : ℕ) → length parts.types.items ≤ 4096
      → AllByRecursion KeepsType parts.types.items
      → IsBehind KeepsEnumType parts.enums.items n
      → BreaksEnumType n place e code → ((other : CheckError) (c : ℕ) → BreaksEnumType n place other c → code ≤ c)
      → BreaksFirst parts place e
  in_file : (f : File) (e : CheckError) (code : ℕ) → length parts.types.items ≤ 4096
      → AllByRecursion KeepsType parts.types.items
      → AllByRecursion KeepsEnumType parts.enums.items → IsBehind KeepsFilePart parts.files.items f
      → BreaksFilePart f place e code → BreaksFirst parts place e

-- no position in a source file
pub record IsNowhere (place : Place) : Type 0 where
  pub file : string_bytes place.file ≡ []
  pub line : place.line ≡ 0
  pub column : place.column ≡ 0

-- the error names the first rule that the parts break, at no position
pub record IsFirstBrokenPart (parts : Parts) (e : CheckError) : Type 0 where
  pub place : Place
  pub is_nowhere : IsNowhere place
  pub breaks : BreaksFirst parts place e
