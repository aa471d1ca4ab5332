-- An item in the range of its type is read again from its body.
use Rattle.std.proofs.Common.{◌≡◌, ℕ, ℤ, pos, negsuc, if◌then◌else◌, ◌*◌, ◌%◌, ◌^◌, ◌<◌, nat_eq, refl, ap, arith, rules}
use Rattle.std.specs.Bool.{⊤}
use Rattle.std.proofs.lemmas.Nat.{from_le_bytes-to_le_bytes_4, from_le_bytes-to_le_bytes_8}
use Rattle.pg_schema.specs.declared.parts.field.Scalar.{Scalar}
use Rattle.pg_schema.specs.declared.parts.field.Element.{Element}
use Rattle.pg_wire.specs.declared.record.WireType.{WireType}
use Rattle.pg_wire.specs.declared.record.WireType.TheVariants.{Varint, I64, Len, I32}
use Rattle.pg_wire.specs.Words.{IsBetween, twos_complement, signed, zigzag, unzigzag}
use Rattle.pg_wire.proofs.Varints.{IsVarint-varint, varint_value-varint}
use Rattle.pg_wire.proofs.Words.{signed-twos_complement, unzigzag-zigzag, zigzag_below}
use Rattle.pg_dyn.specs.message.Message.{Leaf, Int, F32, F64, Bytes}
use Rattle.pg_dyn.specs.laws.Bodies.{IsReadAs}
use Rattle.pg_dyn.specs.word.Coding.{HasShape, Whole, Form, Integer, Single, Double, Text, Raw, int32, scalar_form, form, word_bytes, word_in, body, InRange}

-- the word fits a body of the wire type
abbrev WordFits : WireType → ℕ → Type 0
WordFits Varint word = word < 2 ^ 64
WordFits I64 word = word < 2 ^ 64
WordFits I32 word = word < 2 ^ 32
WordFits Len word = ⊥

word_in-word_bytes : (wire : WireType) (word : ℕ) → WordFits wire word → word_in wire (word_bytes wire word) ≡ word
unfolding word_in word_bytes
word_in-word_bytes Varint word h = varint_value-varint word h
word_in-word_bytes I64 word h = from_le_bytes-to_le_bytes_8 word h
word_in-word_bytes I32 word h = from_le_bytes-to_le_bytes_4 word h
word_in-word_bytes Len word h = absurd h

HasShape-word_bytes : (wire : WireType) (word : ℕ) → WordFits wire word → HasShape wire (word_bytes wire word)
unfolding word_bytes
HasShape-word_bytes Varint word h = IsVarint-varint word h
HasShape-word_bytes I64 word h = refl
HasShape-word_bytes I32 word h = refl
HasShape-word_bytes Len word h = tt

-- each number in range is read again from its word
abbrev IsSoundWhole : Whole → Type 0
IsSoundWhole w = (n : ℤ) → IsBetween w.below w.above n → WordFits w.wire (w.word n) × (w.number (w.word n) ≡ n)

abbrev IsSound : Form → Type 0
IsSound (Integer w) = IsSoundWhole w
IsSound Single = ⊤
IsSound Double = ⊤
IsSound Text = ⊤
IsSound Raw = ⊤

low_word : (n : ℤ) → IsBetween (2 ^ 31) (2 ^ 31) n → twos_complement (2 ^ 64) n % 2 ^ 32 ≡ twos_complement (2 ^ 32) n
low_word (pos n) h = omega arith
low_word (negsuc n) h = omega arith

int32_sound : IsSoundWhole int32
int32_sound n h = search (rules, arith, low_word, signed-twos_complement)

twos_below : (half : ℕ) (n : ℤ) → IsBetween half half n → twos_complement (2 * half) n < 2 * half
twos_below half (pos n) h = omega arith
twos_below half (negsuc n) h = omega arith

unsigned_sound : (size : ℕ) (n : ℤ) → IsBetween 0 size n → (twos_complement (2 ^ 64) n < size) × (pos (twos_complement (2 ^ 64) n) ≡ n)
unsigned_sound size (pos n) h = (h, refl)
unsigned_sound size (negsuc n) h = absurd (omega arith)

unsigned_32 : (n : ℤ) → IsBetween 0 (2 ^ 32) n → (twos_complement (2 ^ 64) n < 2 ^ 64) × (pos (twos_complement (2 ^ 64) n % 2 ^ 32) ≡ n)
unsigned_32 (pos n) h = let same : n % 2 ^ 32 ≡ n = omega arith in (omega arith, ap pos same)
unsigned_32 (negsuc n) h = absurd (omega arith)

fixed_32 : (n : ℤ) → IsBetween 0 (2 ^ 32) n → (twos_complement (2 ^ 32) n < 2 ^ 32) × (pos (twos_complement (2 ^ 32) n) ≡ n)
fixed_32 (pos n) h = (h, refl)
fixed_32 (negsuc n) h = absurd (omega arith)

zigzag_32 : (n : ℤ) → IsBetween (2 ^ 31) (2 ^ 31) n → (zigzag n < 2 ^ 64) × (unzigzag (zigzag n % 2 ^ 32) ≡ n)
zigzag_32 n h = search (rules, arith, zigzag_below (2 ^ 31) n h, unzigzag-zigzag n)

bool_sound : (n : ℤ) → IsBetween 0 2 n → (twos_complement (2 ^ 64) n < 2 ^ 64) × (pos (if nat_eq (twos_complement (2 ^ 64) n) 0 then 0 else 1) ≡ n)
bool_sound n h = grind arith

form_sound : (s : Scalar) → IsSound (scalar_form s)
form_sound s =
    grind (
      arith,
      int32_sound,
      twos_below,
      signed-twos_complement,
      unsigned_32,
      unsigned_sound,
      zigzag_32,
      zigzag_below,
      unzigzag-zigzag,
      fixed_32,
      bool_sound,
    )

element_sound : (e : Element) → IsSound (form e)
element_sound e = grind (arith, form_sound, int32_sound)

-- the item is read again from its own body
abbrev pub Reads : Form → Leaf → Type 0
Reads f leaf = IsReadAs f (body f leaf) leaf

form_reads : (f : Form) (leaf : Leaf) → IsSound f → InRange f leaf → Reads f leaf
form_reads (Integer w) (Int n) sound h =
    let word = sound n h in
    record { read = rw (word_in-word_bytes w.wire (w.word n) word.0, word.1); shape = HasShape-word_bytes w.wire (w.word n) word.0 }
form_reads (Integer w) (F32 bits) sound h = absurd h
form_reads (Integer w) (F64 bits) sound h = absurd h
form_reads (Integer w) (Bytes bytes) sound h = absurd h
form_reads Single (Int n) sound h = absurd h
form_reads Single (F32 bits) sound h = record { read = rw (word_in-word_bytes I32 bits h); shape = HasShape-word_bytes I32 bits h }
form_reads Single (F64 bits) sound h = absurd h
form_reads Single (Bytes bytes) sound h = absurd h
form_reads Double (Int n) sound h = absurd h
form_reads Double (F32 bits) sound h = absurd h
form_reads Double (F64 bits) sound h = record { read = rw (word_in-word_bytes I64 bits h); shape = HasShape-word_bytes I64 bits h }
form_reads Double (Bytes bytes) sound h = absurd h
form_reads Text (Int n) sound h = absurd h
form_reads Text (F32 bits) sound h = absurd h
form_reads Text (F64 bits) sound h = absurd h
form_reads Text (Bytes bytes) sound h = record { read = rw h; shape = tt }
form_reads Raw (Int n) sound h = absurd h
form_reads Raw (F32 bits) sound h = absurd h
form_reads Raw (F64 bits) sound h = absurd h
form_reads Raw (Bytes bytes) sound h = record { read = refl; shape = tt }

pub Reads-from_range : (e : Element) (leaf : Leaf) → InRange (form e) leaf → Reads (form e) leaf
Reads-from_range e leaf h = form_reads (form e) leaf (element_sound e) h
