-- Checks of a schema, as the code goes about them.
use Rattle.std.specs.Prelude.{Bool, ◌&&◌, length}
use Rattle.std.specs.List.{list_all}
use Rattle.pg_schema.specs.declared.parts.Parts.{Parts}
use Rattle.pg_schema.specs.rules.DeclaredNames.{declared_names}
use Rattle.pg_schema.specs.rules.Enums.{is_enum}
use Rattle.pg_schema.specs.rules.Files.{is_file, is_service}
use Rattle.pg_schema.specs.rules.Messages.{is_message_type}
use Rattle.pg_schema.specs.rules.Packages.{are_free_of}
use Rattle.pg_schema.specs.rules.Pairs.{are_distinct}
use Rattle.pg_schema.specs.rules.Scopes.{are_declared_once, is_file_scope, is_type_scope}

-- each file, message type, enum and service by itself
abbrev pub keep_rules : Parts → Bool
keep_rules parts =
    list_all is_file parts.files.items
    && list_all (is_message_type (length parts.types.items) (length parts.enums.items)) parts.types.items
    && list_all is_enum parts.enums.items && list_all (is_service (length parts.types.items)) parts.services.items

-- each message type, enum and service is declared once, in its scope
abbrev pub are_placed : Parts → Bool
are_placed parts =
    are_declared_once parts.files.items parts.types.items (length parts.enums.items) (length parts.services.items)
    && list_all (is_file_scope parts.types.items parts.enums.items parts.services.items) parts.files.items
    && list_all (is_type_scope parts.types.items parts.enums.items) parts.types.items

-- each full name once in all files, also those that don't see each other, and no part of a package among them
abbrev pub are_named_apart : Parts → Bool
are_named_apart parts = are_distinct (declared_names parts) && are_free_of (declared_names parts) parts.files.items
