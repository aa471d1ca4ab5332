-- Reserved items in a row (this profile's way to find two that have a number in common).
use Rattle.std.specs.Prelude.{ℕ, Bool, true, nat_lt, ◌&&◌, List, [], ◌∷◌, Option, Some, None}
use Rattle.pg_check.specs.declared.rules.numbers.Numbers.{Numbers}

-- the number is after the end, if there is one
abbrev pub is_behind : Option ℕ → ℕ → Bool
is_behind None number = true
is_behind (Some end) number = nat_lt end number

-- each begins after the one before it, and the first after the end
abbrev pub follow : Option ℕ → List Numbers → Bool
follow end [] = true
follow end (r ∷ rs) = is_behind end r.first && follow (Some r.last) rs
