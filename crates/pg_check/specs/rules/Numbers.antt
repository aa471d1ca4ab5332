-- Numbers of fields and values, and those that are reserved (proto3 language guide, "Assigning Field Numbers",
-- "Reserved Fields", "Enumerations"). Numbers of both signs are counted from -2^64.
use Rattle.std.specs.List.{list_any}
use Rattle.std.specs.Prelude.{ℕ, ◌+◌, ◌-◌, ◌^◌, Bool, true, false, not, nat_eq, nat_le, ◌&&◌, List}
use Rattle.pg_check.specs.declared.rules.numbers.Keyed.{Keyed}
use Rattle.pg_check.specs.declared.rules.numbers.Numbers.{Numbers}
use Rattle.pg_syntax.specs.declared.tree as tree

-- counted from -2^64
abbrev pub rank : Bool → ℕ → ℕ
rank true size = 2 ^ 64 - size
rank false size = 2 ^ 64 + size

abbrev pub rank_of : tree.Number.Number → ℕ
rank_of n = rank n.is_negative n.size

-- from the lowest to the highest, both of them too
abbrev pub is_within : (lowest highest number : ℕ) → Bool
is_within lowest highest number = nat_le lowest number && nat_le number highest

-- 1 to 536,870,911
abbrev pub lowest_field : ℕ
lowest_field = rank false 1

abbrev pub highest_field : ℕ
highest_field = rank false 536870911

-- -2,147,483,648 to 2,147,483,647
abbrev pub lowest_value : ℕ
lowest_value = rank true 2147483648

abbrev pub highest_value : ℕ
highest_value = rank false 2147483647

-- 19,000 to 19,999 are for the implementation of Protocol Buffers
abbrev pub is_field_number : ℕ → Bool
is_field_number number =
    is_within lowest_field highest_field number && not (is_within (rank false 19000) (rank false 19999) number)

abbrev pub is_same : Keyed → Keyed → Bool
is_same a b = nat_eq a.key b.key

-- the number is in a reserved item; one that falls has none
abbrev pub is_in : ℕ → Numbers → Bool
is_in number r = is_within r.first r.last number

abbrev pub is_reserved : List Numbers → ℕ → Bool
is_reserved reserved number = list_any (is_in number) reserved
