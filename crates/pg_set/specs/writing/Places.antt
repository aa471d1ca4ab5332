-- What the indices in a schema's files mean.
use Rattle.std.specs.Prelude.{List}
use Rattle.pg_schema.specs.declared.parts.enum_type.EnumType.{EnumType}
use Rattle.pg_schema.specs.declared.parts.message_type.MessageType.{MessageType}
use Rattle.pg_schema.specs.declared.parts.Parts.{Parts}
use Rattle.pg_schema.specs.declared.parts.service.Service.{Service}

-- the message types, enums and services of all files, by their indices
pub record Declared : Type 0 where
  pub types : List MessageType
  pub enums : List EnumType
  pub services : List Service

abbrev pub declared_in : Parts → Declared
declared_in parts = record { types = parts.types.items; enums = parts.enums.items; services = parts.services.items }
