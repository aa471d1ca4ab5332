-- What holds of each two items of a list.
use Rattle.std.specs.Prelude.{ℕ, Bool, true, not, nat_lt, ◌&&◌, List, [], ◌∷◌}
use Rattle.std.specs.List.{list_all}
use Rattle.std.specs.Str.{bytes_eq}

-- the test holds of each item and each later one
abbrev pub all_pairs : {A : Type 0} → (A → A → Bool) → List A → Bool
all_pairs test [] = true
all_pairs test (x ∷ xs) = list_all (test x) xs && all_pairs test xs

-- each number is below all that follow
abbrev pub is_rising : List ℕ → Bool
is_rising = all_pairs nat_lt

abbrev pub differ : List ℕ → List ℕ → Bool
differ a b = not (bytes_eq a b)

-- no string is there twice; strings are compared byte by byte
abbrev pub are_distinct : List (List ℕ) → Bool
are_distinct = all_pairs differ
