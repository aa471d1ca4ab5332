-- How an item of an element's type is written in the body of a record (Encoding guide, "Signed Integers", "Non-varint Numbers",
-- "Length-Delimited Records"). That enums and sint32 keep the low 32 bits, that a bool is true for every word but 0 and that
-- a string must be UTF-8 are this profile's choices.
use Rattle.std.specs.Prelude.{◌≡◌, ⊤, ℕ, ℤ, pos, ◌%◌, ◌^◌, ◌<◌, true, nat_eq, List, [], length, if◌then◌else◌, Option, Some, None, Err}
use Rattle.std.specs.List.{AllByRecursion}
use Rattle.std.specs.Int.{w32, w64, to_le_bytes, from_le_bytes}
use Rattle.std.specs.Str.{is_utf8}
use Rattle.pg_schema.specs.declared.parts.field.Scalar.{Scalar}
use Rattle.pg_schema.specs.declared.parts.field.Scalar.TheVariants as scalars
use Rattle.pg_schema.specs.declared.parts.field.Element.{Element}
use Rattle.pg_schema.specs.declared.parts.field.Element.TheVariants as elements
use Rattle.pg_wire.specs.declared.record.WireType.{WireType}
use Rattle.pg_wire.specs.declared.record.WireType.TheVariants.{Varint, I64, Len, I32}
use Rattle.pg_wire.specs.Reading.{Front, exactly, Truncated}
use Rattle.pg_wire.specs.Varint.{IsVarint, varint, varint_at, varint_value}
use Rattle.pg_wire.specs.Words.{IsBetween, twos_complement, signed, zigzag, unzigzag}
use Rattle.pg_dyn.specs.message.Message.{Leaf, Int, F32, F64, Bytes}

-- integers: the wire type, the word that is written of one, the one that a reader makes of a word, and the range -below ≤ z < above
pub record Whole : Type 0 where
  pub wire : WireType
  pub word : ℤ → ℕ
  pub number : ℕ → ℤ
  pub below : ℕ
  pub above : ℕ

-- what is in a body
pub data Form : Type 0 where
  Integer : Whole → Form
  Single : Form
  Double : Form
  Text : Form
  Raw : Form

-- the word of 64 bits in two's complement, of which a reader keeps the low 32 bits
abbrev pub int32 : Whole
int32 = record { wire = Varint; word = twos_complement (2 ^ 64); number = λ w. signed (2 ^ 32) (w % 2 ^ 32); below = 2 ^ 31; above = 2 ^ 31 }

abbrev pub scalar_form : Scalar → Form
scalar_form scalars.Double = Double
scalar_form scalars.Float = Single
scalar_form scalars.Int32 = Integer int32
scalar_form scalars.Int64 = Integer (record { wire = Varint; word = twos_complement (2 ^ 64); number = signed (2 ^ 64); below = 2 ^ 63; above = 2 ^ 63 })
scalar_form scalars.Uint32 = Integer (record { wire = Varint; word = twos_complement (2 ^ 64); number = λ w. pos (w % 2 ^ 32); below = 0; above = 2 ^ 32 })
scalar_form scalars.Uint64 = Integer (record { wire = Varint; word = twos_complement (2 ^ 64); number = pos; below = 0; above = 2 ^ 64 })
scalar_form scalars.Sint32 = Integer (record { wire = Varint; word = zigzag; number = λ w. unzigzag (w % 2 ^ 32); below = 2 ^ 31; above = 2 ^ 31 })
scalar_form scalars.Sint64 = Integer (record { wire = Varint; word = zigzag; number = unzigzag; below = 2 ^ 63; above = 2 ^ 63 })
scalar_form scalars.Fixed32 = Integer (record { wire = I32; word = twos_complement (2 ^ 32); number = pos; below = 0; above = 2 ^ 32 })
scalar_form scalars.Fixed64 = Integer (record { wire = I64; word = twos_complement (2 ^ 64); number = pos; below = 0; above = 2 ^ 64 })
scalar_form scalars.Sfixed32 = Integer (record { wire = I32; word = twos_complement (2 ^ 32); number = signed (2 ^ 32); below = 2 ^ 31; above = 2 ^ 31 })
scalar_form scalars.Sfixed64 = Integer (record { wire = I64; word = twos_complement (2 ^ 64); number = signed (2 ^ 64); below = 2 ^ 63; above = 2 ^ 63 })
scalar_form scalars.Bool = Integer (record { wire = Varint; word = twos_complement (2 ^ 64); number = λ w. pos (if nat_eq w 0 then 0 else 1); below = 0; above = 2 })
scalar_form scalars.String = Text
scalar_form scalars.Bytes = Raw

-- an enum holds any signed number of 32 bits; of a message the body is its bytes
abbrev pub form : Element → Form
form (elements.Scalar s) = scalar_form s
form (elements.Enum e) = Integer int32
form (elements.Message t) = Raw

abbrev pub form_wire : Form → WireType
form_wire (Integer whole) = whole.wire
form_wire Single = I32
form_wire Double = I64
form_wire Text = Len
form_wire Raw = Len

-- the bytes have the shape of a body of this wire type
abbrev pub HasShape : WireType → List ℕ → Type 0
HasShape Varint bytes = IsVarint bytes
HasShape I64 bytes = length bytes ≡ 8
HasShape I32 bytes = length bytes ≡ 4
HasShape Len bytes = ⊤

-- a word as a body, and the word of a body
unfoldable pub word_bytes : WireType → ℕ → List ℕ
word_bytes Varint word = varint word
word_bytes I64 word = to_le_bytes w64 word
word_bytes I32 word = to_le_bytes w32 word
word_bytes Len word = []

unfoldable pub word_in : WireType → List ℕ → ℕ
word_in Varint bytes = varint_value bytes
word_in I64 bytes = from_le_bytes w64 bytes
word_in I32 bytes = from_le_bytes w32 bytes
word_in Len bytes = 0

-- the body of an item
abbrev pub body : Form → Leaf → List ℕ
body (Integer whole) (Int n) = word_bytes whole.wire (whole.word n)
body Single (F32 bits) = word_bytes I32 bits
body Double (F64 bits) = word_bytes I64 bits
body Text (Bytes bytes) = bytes
body Raw (Bytes bytes) = bytes
body f leaf = []

-- the item that a reader makes of a body of the element's own wire type; a string has to be UTF-8
abbrev pub leaf_in : Form → List ℕ → Option Leaf
leaf_in (Integer whole) bytes = Some (Int (whole.number (word_in whole.wire bytes)))
leaf_in Single bytes = Some (F32 (word_in I32 bytes))
leaf_in Double bytes = Some (F64 (word_in I64 bytes))
leaf_in Text bytes = if is_utf8 bytes then Some (Bytes bytes) else None
leaf_in Raw bytes = Some (Bytes bytes)

-- the body of one element at the front of a packed list
abbrev pub element_at : WireType → List ℕ → Front (List ℕ)
element_at Varint bytes = varint_at bytes
element_at I64 bytes = exactly 8 bytes
element_at I32 bytes = exactly 4 bytes
element_at Len bytes = Err Truncated

-- the item of a missing key or value; of a message it is the bytes of the empty one
abbrev pub zero_leaf : Form → Leaf
zero_leaf (Integer whole) = Int (pos 0)
zero_leaf Single = F32 0
zero_leaf Double = F64 0
zero_leaf Text = Bytes []
zero_leaf Raw = Bytes []

-- the item is of this form and in its range
abbrev pub InRange : Form → Leaf → Type 0
InRange (Integer whole) (Int n) = IsBetween whole.below whole.above n
InRange Single (F32 bits) = bits < 2 ^ 32
InRange Double (F64 bits) = bits < 2 ^ 64
InRange Text (Bytes bytes) = is_utf8 bytes ≡ true
InRange Raw (Bytes bytes) = AllByRecursion (λ b. b < 256) bytes
InRange f leaf = ⊥
