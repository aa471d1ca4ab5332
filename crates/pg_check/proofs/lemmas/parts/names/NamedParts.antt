-- What is left of a schema's facts beside those that follow from the rules: names that are words, what is named, and where it
-- has (proto3 language specification, "Identifiers", "Packages").
use Rattle.std.specs.Prelude.{◌≡◌, ℕ, Bool, true, ◌&&◌, length}
use Rattle.std.specs.List.{list_all, AllByRecursion}
use Rattle.std.specs.String.{string_bytes}
use Rattle.pg_schema.specs.declared.parts.enum_type.EnumType.{EnumType}
use Rattle.pg_schema.specs.declared.parts.field.Field.{Field}
use Rattle.pg_schema.specs.declared.parts.file.File.{File}
use Rattle.pg_schema.specs.declared.parts.message_type.MessageType.{MessageType}
use Rattle.pg_schema.specs.declared.parts.Parts.{Parts}
use Rattle.pg_schema.specs.rules.DeclaredNames.{declared_names}
use Rattle.pg_schema.specs.rules.Enums.{is_value, value_names}
use Rattle.pg_schema.specs.rules.Fields.{is_known}
use Rattle.pg_schema.specs.rules.Files.{is_service}
use Rattle.pg_schema.specs.rules.Messages.{field_names}
use Rattle.pg_schema.specs.rules.Packages.{are_free_of}
use Rattle.pg_schema.specs.rules.Pairs.{are_distinct}
use Rattle.pg_schema.specs.rules.Scopes.{are_declared_once, is_file_scope, is_type_scope}
use Rattle.pg_schema.specs.rules.Words.{is_package, is_word}

-- the field's name is a word, and what its element names is one of so many message types and enums
abbrev pub is_named_field : (types enums : ℕ) → Field → Bool
is_named_field types enums f = is_word (string_bytes f.name) && is_known types enums f.element

pub record NamedMessage (types enums : ℕ) (t : MessageType) : Type 0 where
  pub fields : list_all (is_named_field types enums) t.fields.items ≡ true
  pub oneofs : list_all (λ text. is_word (string_bytes text)) t.oneofs.items ≡ true
  pub names_once : are_distinct (field_names t.fields.items) ≡ true

pub record NamedEnum (e : EnumType) : Type 0 where
  pub values : list_all is_value e.values.items ≡ true
  pub names_once : are_distinct (value_names e.values.items) ≡ true

abbrev pub has_package : File → Bool
has_package f = is_package (string_bytes f.package)

pub record NamedParts (parts : Parts) : Type 0 where
  pub messages : AllByRecursion (NamedMessage (length parts.types.items) (length parts.enums.items)) parts.types.items
  pub enums : AllByRecursion NamedEnum parts.enums.items
  pub packages : list_all has_package parts.files.items ≡ true
  pub services : list_all (is_service (length parts.types.items)) parts.services.items ≡ true
  pub declared_once : are_declared_once parts.files.items parts.types.items (length parts.enums.items) (length parts.services.items) ≡ true
  pub file_scopes : list_all (is_file_scope parts.types.items parts.enums.items parts.services.items) parts.files.items ≡ true
  pub type_scopes : list_all (is_type_scope parts.types.items parts.enums.items) parts.types.items ≡ true
  pub names : are_distinct (declared_names parts) ≡ true
  pub free_packages : are_free_of (declared_names parts) parts.files.items ≡ true
