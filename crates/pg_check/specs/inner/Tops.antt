-- Reserved items by their first numbers, and how far the items up to each of them reach (this profile's way to look
-- numbers up).
use Rattle.std.specs.Prelude.{ℕ, List, [], ◌∷◌, max}
use Rattle.pg_check.specs.declared.rules.numbers.Numbers.{Numbers}

-- for each item the highest last number of those up to it, and of the ones before the list
abbrev pub tops_from : ℕ → List Numbers → List ℕ
tops_from top [] = []
tops_from top (r ∷ rs) = max top r.last ∷ tops_from (max top r.last) rs

abbrev pub highest : List Numbers → ℕ
highest [] = 0
highest (r ∷ rs) = max r.last (highest rs)
