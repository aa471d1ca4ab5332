-- Of a schema's facts, where its files are linked and keep to the rules, those on indexes and full names.
use Rattle.std.proofs.Common.{◌≡◌, true, length}
use Rattle.std.specs.List.{list_all, AllByRecursion}
use Rattle.pg_schema.specs.declared.parts.enum_type.EnumType.{EnumType}
use Rattle.pg_schema.specs.declared.parts.Parts.{Parts}
use Rattle.pg_schema.specs.rules.DeclaredNames.{declared_names}
use Rattle.pg_schema.specs.rules.Enums.{value_names}
use Rattle.pg_schema.specs.rules.Packages.{are_free_of}
use Rattle.pg_schema.specs.rules.Pairs.{are_distinct}
use Rattle.pg_schema.specs.rules.Scopes.{are_declared_once, is_file_scope, is_type_scope}

abbrev pub HasValuesOnce : EnumType → Type 0
HasValuesOnce e = are_distinct (value_names e.values.items) ≡ true

pub record PlacedParts (parts : Parts) : Type 0 where
  pub values_once : AllByRecursion HasValuesOnce parts.enums.items
  pub declared_once : are_declared_once parts.files.items parts.types.items (length parts.enums.items) (length parts.services.items) ≡ true
  pub file_scopes : list_all (is_file_scope parts.types.items parts.enums.items parts.services.items) parts.files.items ≡ true
  pub type_scopes : list_all (is_type_scope parts.types.items parts.enums.items) parts.types.items ≡ true
  pub names : are_distinct (declared_names parts) ≡ true
  pub free_packages : are_free_of (declared_names parts) parts.files.items ≡ true
