-- The least of some numbers by their word: of the numbers of an enum the one with the shortest varint, of equally
-- short ones the lesser.
use Rattle.std.specs.Prelude.{ℕ, ◌^◌, ℤ, nat_le, nat_lt, List, [], ◌∷◌, Bool, ◌&&◌, ◌||◌, not, if◌then◌else◌, Option, Some, None, pos, negsuc}
use Rattle.std.specs.Ordering.{int_eq}
use Rattle.pg_wire.specs.Words.{twos_complement}

-- the word of 64 bits by which a message holds a number of an enum (Protocol Buffers Encoding guide, "Signed
-- Integers")
abbrev pub number_word : ℤ → ℕ
number_word n = twos_complement (2 ^ 64) n

-- of equal words the former
abbrev pub lesser : ℤ → Option ℤ → ℤ
lesser n None = n
lesser n (Some m) = if nat_le (number_word n) (number_word m) then n else m

-- a number with the least word, of several the first; none where there is no number
abbrev pub least_number : List ℤ → Option ℤ
least_number [] = None
least_number (n ∷ ns) = Some (lesser n (least_number ns))

-- the lesser of a former number, where there is one, and of a later one
abbrev pub lesser_of : Option ℤ → Option ℤ → Option ℤ
lesser_of None later = later
lesser_of (Some n) later = Some (lesser n later)

-- a number of 32 bits
abbrev pub has_32_bits : ℤ → Bool
has_32_bits (pos n) = nat_lt n (2 ^ 31)
has_32_bits (negsuc n) = nat_lt n (2 ^ 31)

-- of 32 bits, and not 0 where 0 doesn't count
abbrev pub number_counts : Bool → ℤ → Bool
number_counts zero n = has_32_bits n && (zero || not (int_eq n (pos 0)))
