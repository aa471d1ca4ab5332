-- The word of an integer, and the integer of a word, by the form of the field's items.
use Rattle.std.specs.Prelude.{ℕ, ℤ, pos, ⊤, ◌^◌, ◌<◌}
use Rattle.pg_wire.specs.declared.record.WireType.{WireType}
use Rattle.pg_wire.specs.declared.record.WireType.TheVariants.{Varint, I64, Len, I32}
use Rattle.pg_wire.specs.Words.{IsBetween}
use Rattle.pg_dyn.specs.word.Coding.{Form, Integer, Single, Double, Text, Raw}

abbrev pub number_by : Form → ℕ → ℤ
number_by (Integer whole) word = whole.number word
number_by Single word = pos 0
number_by Double word = pos 0
number_by Text word = pos 0
number_by Raw word = pos 0

abbrev pub word_by : Form → ℤ → ℕ
word_by (Integer whole) n = whole.word n
word_by Single n = 0
word_by Double n = 0
word_by Text n = 0
word_by Raw n = 0

-- the integer is in the range of the form
abbrev pub IsIntegerOf : Form → ℤ → Type 0
IsIntegerOf (Integer whole) n = IsBetween whole.below whole.above n
IsIntegerOf Single n = ⊥
IsIntegerOf Double n = ⊥
IsIntegerOf Text n = ⊥
IsIntegerOf Raw n = ⊥

-- the word is of as many bits as a body of the wire type
abbrev pub HasBits : WireType → ℕ → Type 0
HasBits I32 word = word < 2 ^ 32
HasBits Varint word = ⊤
HasBits I64 word = ⊤
HasBits Len word = ⊤

abbrev pub IsWord : WireType → ℕ → Type 0
IsWord wire word = HasBits wire word × (word < 2 ^ 64)

abbrev pub WordFits : Form → ℕ → Type 0
WordFits (Integer whole) word = HasBits whole.wire word
WordFits Single word = ⊤
WordFits Double word = ⊤
WordFits Text word = ⊤
WordFits Raw word = ⊤

-- the form is one of integers
abbrev pub IsInteger : Form → Type 0
IsInteger (Integer whole) = ⊤
IsInteger Single = ⊥
IsInteger Double = ⊥
IsInteger Text = ⊥
IsInteger Raw = ⊥
