-- The lines by which a message is shown, as lists of bytes (this profile's choice).
use Rattle.std.specs.Prelude.{ℕ, List, [], ◌∷◌, ◌++◌, flat_map, codes, decimal, Option, Some, None}
use Rattle.std.specs.Fmt.{signed_decimal}
use Rattle.std.specs.Int.{w32, w64, to_be_bytes}
use Rattle.hex.specs.Hex.{encode_lower}
use Rattle.pg_schema.specs.declared.parts.field.TypeId.{TypeId}
use Rattle.pg_schema.specs.declared.parts.field.Element.{Element}
use Rattle.pg_schema.specs.declared.parts.field.Element.TheVariants as elements
use Rattle.pg_schema.specs.declared.parts.field.Scalar.{Scalar}
use Rattle.pg_schema.specs.declared.parts.field.Scalar.TheVariants as scalars
use Rattle.pg_schema.specs.Shape.{Shape, FieldShape, fields, field_at}
use Rattle.pg_wire.specs.Records.{WireRecord}
use Rattle.pg_dyn.specs.message.Message.{Leaf, Int, F32, F64, Bytes, Message, ends, holds, nests}
use Rattle.pg_dyn.specs.encoding.Encoding.{element_type}
use Rattle.pg_show.specs.Hex.{hex_of}

abbrev pub Text : Type 0
Text = List ℕ

-- what a field of a message type is called, by its number
abbrev pub Names : Type 0
Names = TypeId → ℕ → Text

abbrev pub space : Text
space = codes " "

abbrev pub line_end : Text
line_end = 10 ∷ []

-- ---- an item

-- the field of bytes says whether they are a string
abbrev pub kind : Element → Text
kind (elements.Scalar s) = of s
  where
    of : Scalar → Text
    of scalars.String = codes "text "
    of s = codes "bytes "
kind (elements.Enum e) = codes "bytes "
kind (elements.Message t) = codes "bytes "

-- A number in decimal; the bits of a float as a number of 8 digits, those of a double of 16; the bytes of a string or
-- of bytes.
abbrev pub item : Element → Leaf → Text
item element (Int n) = codes "int " ++ signed_decimal n
item element (F32 bits) = codes "f32 " ++ encode_lower (to_be_bytes w32 bits)
item element (F64 bits) = codes "f64 " ++ encode_lower (to_be_bytes w64 bits)
item element (Bytes bytes) = kind element ++ hex_of bytes

-- ---- a line

-- in a map `key ITEM value `; a key is a number or a string
abbrev pub key_words : Option Leaf → Text
key_words None = []
key_words (Some key) = codes "key " ++ (item (elements.Scalar scalars.String) key ++ codes " value ")

-- `NUMBER NAME `, and in a map the key
abbrev pub front : Text → ℕ → Text → Option Leaf → Text
front indent number name key = indent ++ (decimal number ++ (space ++ (name ++ (space ++ key_words key))))

abbrev pub line : Text → ℕ → Text → Option Leaf → Text → Text
line indent number name key what = front indent number name key ++ (what ++ line_end)

abbrev pub unknown_line : Text → WireRecord → Text
unknown_line indent r = indent ++ (codes "unknown " ++ (hex_of r.bytes ++ line_end))

-- ---- a message

-- what the items of the field with the number are
abbrev pub element_of : List FieldShape → ℕ → Element
element_of fs number = of (field_at fs number)
  where
    of : Option FieldShape → Element
    of (Some f) = f.element
    of None = elements.Scalar scalars.Bytes

-- further in by two spaces
abbrev pub inner : Text → Text
inner indent = codes "  " ++ indent

-- A line for each item, by rising number and key; after a nested message's line its own lines, further in; then the
-- unknown records.
abbrev pub lines : Names → Shape → TypeId → Text → Message → Text
lines names shape type indent (ends unknown) = flat_map (unknown_line indent) unknown
lines names shape type indent (holds number key leaf later) =
    line indent number (names type number) key (item (element_of (fields shape type) number) leaf)
    ++ lines names shape type indent later
lines names shape type indent (nests number key child later) =
    line indent number (names type number) key (codes "msg")
    ++ (lines names shape (element_type (element_of (fields shape type) number)) (inner indent) child
    ++ lines names shape type indent later)
