-- Words and packages (proto3 language specification, "Identifiers", "Package"; that a word may begin with `_` is this
-- profile's choice). Strings are lists of bytes.
use Rattle.std.specs.Prelude.{ℕ, Bool, true, false, nat_le, ◌&&◌, ◌||◌, ◌==◌, List, [], ◌∷◌, if◌then◌else◌}
use Rattle.std.specs.List.{list_all}

-- `A` to `Z`, `a` to `z`, `_`
abbrev pub is_letter : ℕ → Bool
is_letter byte = (nat_le 65 byte && nat_le byte 90) || (nat_le 97 byte && nat_le byte 122) || byte == 95

-- `0` to `9`
abbrev pub is_digit : ℕ → Bool
is_digit byte = nat_le 48 byte && nat_le byte 57

-- what may come after the first letter
abbrev pub is_word_byte : ℕ → Bool
is_word_byte byte = is_letter byte || is_digit byte

-- a letter, then letters and digits
abbrev pub is_word : List ℕ → Bool
is_word [] = false
is_word (first ∷ others) = is_letter first && list_all is_word_byte others

abbrev pub before_first : ℕ → List (List ℕ) → List (List ℕ)
before_first byte [] = (byte ∷ []) ∷ []
before_first byte (part ∷ parts) = (byte ∷ part) ∷ parts

-- what is between the dots of a string
abbrev pub parts_at_dots : List ℕ → List (List ℕ)
parts_at_dots [] = [] ∷ []
parts_at_dots (byte ∷ bytes) = if byte == 46 then [] ∷ parts_at_dots bytes else before_first byte (parts_at_dots bytes)

-- empty, or words with one dot between
abbrev pub is_package : List ℕ → Bool
is_package [] = true
is_package (byte ∷ bytes) = list_all is_word (parts_at_dots (byte ∷ bytes))
