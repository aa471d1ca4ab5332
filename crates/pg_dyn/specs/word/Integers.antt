-- Integers of 128 bits in two words.
use Rattle.std.specs.Prelude.{ℕ, ℤ, ◌+◌, ◌*◌, ◌^◌, ◌/◌, ◌%◌, ◌<◌, ◌≡◌}
use Rattle.std.specs.Int.{cast_signed, cast_unsigned, w128}
use Rattle.std.proofs.Common.{arith}
use Rattle.std.proofs.lemmas.Int.{of_z-to_z}
use Rattle.pg_dyn.specs.declared.integer.Integer.TheInside.{Inside}

-- both parts are words of 64 bits
abbrev pub AreWords : Inside → Type 0
AreWords a = (a.high < 2 ^ 64) × (a.low < 2 ^ 64)

-- the integer of which these are the words, in two's complement
abbrev pub integer_of : Inside → ℤ
integer_of a = cast_signed w128 (a.high * 2 ^ 64 + a.low)

-- the words of an integer
abbrev pub words_of : ℤ → Inside
words_of number = record { high = cast_unsigned w128 number / 2 ^ 64; low = cast_unsigned w128 number % 2 ^ 64 }

high_word : (high low : ℕ) → low < 2 ^ 64 → (high * 2 ^ 64 + low) / 2 ^ 64 ≡ high
high_word high low h = omega arith

low_word : (high low : ℕ) → low < 2 ^ 64 → (high * 2 ^ 64 + low) % 2 ^ 64 ≡ low
low_word high low h = omega arith

bits_of : (a : Inside) → AreWords a → cast_unsigned w128 (integer_of a) ≡ a.high * 2 ^ 64 + a.low
bits_of a h = of_z-to_z w128 (a.high * 2 ^ 64 + a.low) (omega (arith, h.0, h.1))

-- the words of an integer are those that it was made of
pub words_of_integer : (a : Inside) → AreWords a → words_of (integer_of a) ≡ a
words_of_integer a h = Prim.grind (arith, bits_of a h, high_word a.high a.low h.1, low_word a.high a.low h.1)
