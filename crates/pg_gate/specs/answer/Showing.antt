-- What is shown of bytes, and why nothing is; and what is shown of a message that breaks.
use Rattle.std.specs.Prelude.{◌≡◌, ◌⊎◌, ℕ, Bool, true, false, Option, Some, None, string_bytes}
use Rattle.pg_link.specs.names.Names.{Text}
use Rattle.pg_dyn.specs.reading.Faults.{TooDeepIn}
use Rattle.pg_dyn.specs.declared.error.DynError.{DynError}
use Rattle.pg_dyn.specs.declared.error.DynError.TheVariants as messages
use Rattle.pg_schema.specs.declared.parts.field.TypeId.{TypeId}
use Rattle.pg_schema.specs.declared.parts.Parts.{Parts}
use Rattle.pg_schema.specs.Parts.{shape_of}
use Rattle.pg_schema.specs.Shape.{fields}
use Rattle.pg_show.specs.Hex.{bytes_in}
use Rattle.pg_show.specs.Shown.{Refuses, Shows, most_levels, names_of}
use Rattle.pg_least.specs.Loss.{IsNamed, Lacks}
use Rattle.pg_pairs.specs.declared.choices.choice.Pair.{Pair}
use Rattle.pg_gate.specs.print.Refusals.{refusal_of_bytes}
use Rattle.pg_lines.specs.Text.{refusal_of}
use Rattle.pg_gate.specs.declared.print.reply.Readings.{Readings}

-- the output is that of the message that the bytes are read as by the type, and no message in it is too deep
pub record IsReadAs (schema : Parts) (type : TypeId) (bytes text : Text) : Type 0 where
  pub shows : Shows (names_of schema) (shape_of schema) type bytes text
  pub within : (place : ℕ) → TooDeepIn (shape_of schema) most_levels (fields (shape_of schema) type) bytes place → ⊥

-- the argument spells bytes, and the output is that of the message that the type of this full name reads them as
pub record IsShown (schema : Parts) (root word text : Text) : Type 0 where
  pub type : TypeId
  pub bytes : Text
  pub named : IsNamed schema root type
  pub spelled : bytes_in word ≡ Some bytes
  pub read : IsReadAs schema type bytes text

-- ---- what is refused

-- bytes that aren't read as a message, or as one that has no encoding, and the error isn't `Memory`
pub record IsRefused (schema : Parts) (type : TypeId) (bytes : Text) (error : DynError) : Type 0 where
  pub is_reported : error ≡ messages.Memory → ⊥
  pub refuses : Refuses (shape_of schema) type bytes error

-- bytes that the argument spells are refused by the type of that full name
pub record IsRefusedWord (schema : Parts) (root word : Text) (error : DynError) : Type 0 where
  pub type : TypeId
  pub bytes : Text
  pub named : IsNamed schema root type
  pub spelled : bytes_in word ≡ Some bytes
  pub refused : IsRefused schema type bytes error

-- the schema has the type, so the argument is read, and it spells no bytes
abbrev pub IsBadWord : Parts → Text → Text → Type 0
IsBadWord schema root word = (Lacks schema root → ⊥) × (bytes_in word ≡ None)

-- ---- a message that breaks, as both sides read it

-- the line of a refusal of the bytes by the type's reader
pub record IsRefusalLine (schema : Parts) (type : TypeId) (bytes text : Text) : Type 0 where
  pub error : DynError
  pub refused : IsRefused schema type bytes error
  pub line : text ≡ refusal_of (refusal_of_bytes error)

-- what `show` prints of the bytes by the type: the lines of the message that they are read as, or the refusal that
-- its reader gives
abbrev pub IsReading : Parts → TypeId → Text → Text → Type 0
IsReading schema type bytes text = IsReadAs schema type bytes text ⊎ IsRefusalLine schema type bytes text

-- the bytes as the old and as the new type of the pair read them
pub record AreReadings (old new : Parts) (pair : Pair) (bytes : Text) (readings : Readings) : Type 0 where
  pub by_old : IsReading old pair.old bytes (string_bytes readings.old)
  pub by_new : IsReading new pair.new bytes (string_bytes readings.new)

-- both readings where they are asked for, and else none
abbrev pub IsExplained : (explain : Bool) → Parts → Parts → Pair → Text → Option Readings → Type 0
IsExplained true old new pair bytes (Some readings) = AreReadings old new pair bytes readings
IsExplained true old new pair bytes None = ⊥
IsExplained false old new pair bytes readings = readings ≡ None
