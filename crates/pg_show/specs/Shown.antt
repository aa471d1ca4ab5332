-- The lines by which bytes are shown, and when they are refused.
use Rattle.std.specs.Prelude.{◌≡◌, ℕ, ◌<◌, List, [], ◌++◌, length, codes, Option, Some, None, string_bytes}
use Rattle.pg_schema.specs.declared.parts.field.Field.{Field}
use Rattle.pg_schema.specs.declared.parts.field.TypeId.{TypeId}
use Rattle.pg_schema.specs.declared.parts.Parts.{Parts}
use Rattle.pg_schema.specs.Lookups.{field_of}
use Rattle.pg_schema.specs.Shape.{Shape}
use Rattle.pg_dyn.specs.declared.error.DynError.{DynError}
use Rattle.pg_dyn.specs.declared.error.DynError.TheVariants as errors
use Rattle.pg_dyn.specs.message.Message.{Message}
use Rattle.pg_dyn.specs.reading.Decoding.{dec}
use Rattle.pg_dyn.specs.encoding.Encoding.{cap, enc}
use Rattle.pg_dyn.specs.reading.Refusals.{MayRefuse}
use Rattle.pg_show.specs.Hex.{hex_of}
use Rattle.pg_show.specs.Lines.{Names, Text, line_end, lines}

-- the names of a schema's fields
abbrev pub name_in : Option Field → Text
name_in (Some f) = string_bytes f.name
name_in None = []

abbrev pub names_of : Parts → Names
names_of parts type number = name_in (field_of parts type number)

-- `again HEX`
abbrev pub again_line : List ℕ → Text
again_line bytes = codes "again " ++ (hex_of bytes ++ line_end)

-- the lines of a message, and last its encoding
abbrev pub shown : Names → Shape → TypeId → Message → Text
shown names shape type m = lines names shape type [] m ++ again_line (enc shape type m)

-- the lines are those of the message that the bytes are read as
pub record Shows (names : Names) (shape : Shape) (type : TypeId) (bytes : List ℕ) (text : Text) : Type 0 where
  pub message : Message
  pub read : dec shape type bytes ≡ Some message
  pub is_shown : text ≡ shown names shape type message

-- the bytes are read as a message whose encoding is too long
pub record IsTooLong (shape : Shape) (type : TypeId) (bytes : List ℕ) : Type 0 where
  pub message : Message
  pub read : dec shape type bytes ≡ Some message
  pub too_long : cap < length (enc shape type message)

-- how deep messages may be nested; the root has depth 1
abbrev pub most_levels : ℕ
most_levels = 100

-- bytes are refused as reading refuses them, and where the message's encoding is too long
abbrev pub Refuses : Shape → TypeId → List ℕ → DynError → Type 0
Refuses shape type bytes errors.TooLong = IsTooLong shape type bytes
Refuses shape type bytes e = MayRefuse shape type most_levels bytes e
