-- A worked set, read: the bytes of a small file's set, which are protoc's, state that file's schema.
use Rattle.std.specs.Prelude.{◌≡◌, [], ◌∷◌, codes, false}
use Rattle.pg_schema.specs.declared.parts.field.Element.TheVariants as elements
use Rattle.pg_schema.specs.declared.parts.field.Field.{Field}
use Rattle.pg_schema.specs.declared.parts.field.Presence.TheVariants.{Implicit}
use Rattle.pg_schema.specs.declared.parts.field.Scalar.TheVariants.{Int32}
use Rattle.pg_schema.specs.declared.parts.file.File.{File}
use Rattle.pg_schema.specs.declared.parts.message_type.MessageType.{MessageType}
use Rattle.pg_schema.specs.declared.parts.Parts.{Parts}
use Rattle.pg_set.specs.examples.Examples.{AreParts, IsField, IsMessage, one_field_bytes}
use Rattle.pg_set.specs.stated.Reads.{fds_reads}

-- `message M { int32 a = 1; }`
abbrev pub OneFieldRead : Type 0
OneFieldRead =
    (parts : Parts) (file : File) (t : MessageType) (a : Field) → AreParts parts file t → IsMessage t (a ∷ []) (1 ∷ [])
    → IsField a (codes "a") 1 Implicit (elements.Scalar Int32) false → parts.enums.items ≡ []
    → parts.services.items ≡ []
    → fds_reads one_field_bytes parts
