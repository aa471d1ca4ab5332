-- What the parts of files have in common where the files keep to the rules: of all that holds of a schema, what follows
-- from the rules alone (proto3 language guide, "Enumerations", "Reserved Values"). That names are words, that what is named
-- is there, and that each is declared once at its index, follows from the grammar and from names that are linked.
use Rattle.std.specs.Prelude.{◌≡◌, ◌≤◌, ℕ, Bool, true, false, not, ◌&&◌, ◌∷◌, map, length, is_some}
use Rattle.std.specs.List.{list_all, AllByRecursion}
use Rattle.std.specs.String.{string_bytes}
use Rattle.pg_schema.specs.declared.parts.enum_type.EnumType.{EnumType}
use Rattle.pg_schema.specs.declared.parts.field.Field.{Field}
use Rattle.pg_schema.specs.declared.parts.file.File.{File}
use Rattle.pg_schema.specs.declared.parts.message_type.MessageType.{MessageType}
use Rattle.pg_schema.specs.declared.parts.Parts.{Parts}
use Rattle.pg_schema.specs.rules.Enums.{begins_with_zero, value_names}
use Rattle.pg_schema.specs.rules.Fields.{has_presence, is_field_number, is_oneof, is_packed, stated_or}
use Rattle.pg_schema.specs.rules.Files.{is_file_option, option_numbers}
use Rattle.pg_schema.specs.rules.Messages.{field_names, have_members, is_declared, json_names, numbers}
use Rattle.pg_schema.specs.rules.Pairs.{are_distinct, is_rising}
use Rattle.pg_schema.specs.rules.TextSets.{is_among}
use Rattle.pg_schema.specs.rules.Uses.{enum_uses, is_reserved_range, is_used_once, is_value_range, message_uses}

pub record KeptEnum (e : EnumType) : Type 0 where
  pub first_value : begins_with_zero e.values.items ≡ true
  pub ranges : list_all is_value_range e.reserved_numbers.items ≡ true
  pub names_free : list_all (λ name. not (is_among (value_names e.values.items) name)) (map string_bytes e.reserved_names.items) ≡ true
  pub numbers_once : is_used_once (stated_or e.options.allow_alias false) (enum_uses e.values.items e.reserved_numbers.items) ≡ true

-- the field by itself, in a message with so many oneofs
abbrev pub is_kept_field : ℕ → Field → Bool
is_kept_field oneofs f =
    is_field_number f.number && has_presence f.presence f.element (is_some f.oneof) f.states_optional && is_packed f.presence f.element f.options.packed
    && is_oneof oneofs f.oneof

pub record KeptMessage (t : MessageType) : Type 0 where
  pub fields : list_all (is_kept_field (length t.oneofs.items)) t.fields.items ≡ true
  pub in_order : is_rising (0 ∷ numbers t.fields.items) ≡ true
  pub declared : is_declared t.declared.items t.fields.items ≡ true
  pub oneofs : have_members (length t.oneofs.items) t.fields.items ≡ true
  pub ranges : list_all is_reserved_range t.reserved_numbers.items ≡ true
  pub numbers_once : is_used_once false (message_uses t.fields.items t.reserved_numbers.items) ≡ true
  pub names_free : list_all (λ name. not (is_among (field_names t.fields.items) name)) (map string_bytes t.reserved_names.items) ≡ true
  pub json_names_once : are_distinct (json_names t.fields.items) ≡ true

-- the options of a file, each of its kind, by rising numbers
pub record KeptFile (f : File) : Type 0 where
  pub rising : is_rising (0 ∷ option_numbers f.options.items) ≡ true
  pub fitting : list_all is_file_option f.options.items ≡ true

pub record KeptParts (parts : Parts) : Type 0 where
  pub few_types : length parts.types.items ≤ 4096
  pub messages : AllByRecursion KeptMessage parts.types.items
  pub enums : AllByRecursion KeptEnum parts.enums.items
  pub files : AllByRecursion KeptFile parts.files.items
