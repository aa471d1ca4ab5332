-- The names of the message types that a schema declares.
use Rattle.std.specs.Prelude.{◌≡◌, List, String, map, string_bytes}
use Rattle.std.specs.Global.{Global}
use Rattle.pg_schema.specs.declared.parts.message_type.MessageType.{MessageType}
use Rattle.pg_schema.specs.declared.parts.Parts.{Parts}

-- the names of all message types that the schema declares, in order of declaration, and nothing else
abbrev pub ListsTypes : Parts → List (String Global) → Type 0
ListsTypes schema names =
    map string_bytes names ≡ map (λ (type : MessageType). string_bytes type.name) schema.types.items
