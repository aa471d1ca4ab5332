-- Tests of one item beside the former one.
use Rattle.std.specs.Prelude.{ℕ, Bool, not, nat_lt, ◌==◌, if◌then◌else◌, nat_le, ◌&&◌, ◌||◌, true, List, [], ◌∷◌, false}
use Rattle.pg_schema.specs.rules.Words.{is_letter, is_word_byte}
use Rattle.pg_schema.specs.declared.rules.uses.Use.{Use}
use Rattle.pg_schema.specs.rules.Uses.{are_aliases}

-- a dot ends a word; a word begins with a letter and goes on with letters and digits
abbrev pub may_stand : (begins : Bool) → ℕ → Bool
may_stand begins byte = if byte == 46 then not begins else (if begins then is_letter byte else is_word_byte byte)

-- a byte that is a character by itself
abbrev pub is_ascii : ℕ → Bool
is_ascii byte = nat_lt byte 128

-- a use has a number, and that of a field or value has one only
abbrev pub is_whole : Use → Bool
is_whole u = nat_le u.first u.last && (u.is_reserved || nat_le u.last u.first)

-- one use comes before the other, or is an alias of it
abbrev pub comes_before : Bool → Use → Use → Bool
comes_before aliases a b = nat_lt a.last b.first || (are_aliases aliases a b && nat_le a.last b.first)

-- the test holds of each item and the next one
abbrev pub all_neighbours : {A : Type 0} → (A → A → Bool) → List A → Bool
all_neighbours test [] = true
all_neighbours test (x ∷ []) = true
all_neighbours test (x ∷ y ∷ ys) = test x y && all_neighbours test (y ∷ ys)

-- an index, as a number that is used
abbrev pub place_use : ℕ → Use
place_use place = record { first = place; last = place; is_reserved = false }
