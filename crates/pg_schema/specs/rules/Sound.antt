-- What holds of all that a schema declares, in the order of the proto3 language specification. That a schema has at
-- most 4,096 message types is this project's choice.
use Rattle.std.specs.Prelude.{◌≡◌, ◌≤◌, true, length}
use Rattle.std.specs.List.{list_all}
use Rattle.pg_schema.specs.declared.parts.Parts.{Parts}
use Rattle.pg_schema.specs.rules.DeclaredNames.{declared_names}
use Rattle.pg_schema.specs.rules.Enums.{is_enum}
use Rattle.pg_schema.specs.rules.Files.{is_file, is_service}
use Rattle.pg_schema.specs.rules.Messages.{is_message_type}
use Rattle.pg_schema.specs.rules.Packages.{are_free_of}
use Rattle.pg_schema.specs.rules.Pairs.{are_distinct}
use Rattle.pg_schema.specs.rules.Scopes.{are_declared_once, is_file_scope, is_type_scope}

pub record IsSound (parts : Parts) : Type 0 where
  pub few_types : length parts.types.items ≤ 4096
  pub files : list_all is_file parts.files.items ≡ true
  pub message_types :
      list_all (is_message_type (length parts.types.items) (length parts.enums.items)) parts.types.items ≡ true
  pub enums : list_all is_enum parts.enums.items ≡ true
  pub services : list_all (is_service (length parts.types.items)) parts.services.items ≡ true
  pub declared_once :
      are_declared_once parts.files.items parts.types.items (length parts.enums.items) (length parts.services.items)
      ≡ true
  pub file_scopes :
      list_all (is_file_scope parts.types.items parts.enums.items parts.services.items) parts.files.items ≡ true
  pub type_scopes : list_all (is_type_scope parts.types.items parts.enums.items) parts.types.items ≡ true
  pub names : are_distinct (declared_names parts) ≡ true
  pub packages : are_free_of (declared_names parts) parts.files.items ≡ true
