-- Lists of numbers, as a message that borrows keeps them: the words that were read (Encoding guide, "Packed Repeated Fields").
use Rattle.std.specs.Prelude.{ℕ, pos, ◌%◌, ◌^◌, List, map, ⊤}
use Rattle.pg_wire.specs.declared.record.WireType.{WireType}
use Rattle.pg_wire.specs.declared.record.WireType.TheVariants.{Varint, I64, Len, I32}
use Rattle.pg_dyn.specs.declared.message_ref.ValueRef.{ValueRef}
use Rattle.pg_dyn.specs.declared.message_ref.ValueRef.TheVariants as values
use Rattle.pg_dyn.specs.declared.number_list.Number.{Number}
use Rattle.pg_dyn.specs.declared.number_list.Number.TheVariants as numbers
use Rattle.pg_dyn.specs.declared.number_list.NumberList.{NumberList}
use Rattle.pg_dyn.specs.word.Coding.{Form, Integer, Single, Double, Text, Raw, scalar_form}

-- the part of a word that a body of the wire type has
abbrev pub low_bits : WireType → ℕ → ℕ
low_bits I32 word = word % 2 ^ 32
low_bits Varint word = word
low_bits I64 word = word
low_bits Len word = word

-- the item that a word says; no list of strings or bytes is kept as words
abbrev pub number_item : Form → ℕ → ValueRef
number_item (Integer whole) word = values.Int (whole.number (low_bits whole.wire word))
number_item Single word = values.F32 (low_bits I32 word)
number_item Double word = values.F64 word
number_item Text word = values.Int (pos 0)
number_item Raw word = values.Int (pos 0)

-- a number, as an item
abbrev pub item_of : Number → ValueRef
item_of (numbers.Int n) = values.Int n
item_of (numbers.F32 bits) = values.F32 bits
item_of (numbers.F64 bits) = values.F64 bits

-- the numbers of a list, as items
abbrev pub numbers_in : NumberList → List ValueRef
numbers_in ns = map (number_item (scalar_form ns.scalar)) ns.words.items

-- the item is a number
abbrev pub IsNumber : ValueRef → Type 0
IsNumber (values.Int n) = ⊤
IsNumber (values.F32 bits) = ⊤
IsNumber (values.F64 bits) = ⊤
IsNumber value = ⊥
