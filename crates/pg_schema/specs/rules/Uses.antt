-- The numbers that a message type or an enum uses: those of its fields or values, and those that are reserved
-- (proto3 language guide, "Assigning Field Numbers", "Reserved Fields", "Reserved Values", "Enumerations").
use Rattle.std.specs.Prelude.{ℕ, suc, ◌+◌, ◌-◌, ◌^◌, ℤ, pos, negsuc, Bool, true, false, not, nat_lt, nat_le, ◌&&◌, ◌||◌, List, ◌++◌, map}
use Rattle.pg_schema.specs.declared.parts.enum_type.EnumValue.{EnumValue}
use Rattle.pg_schema.specs.declared.parts.enum_type.ReservedValues.{ReservedValues}
use Rattle.pg_schema.specs.declared.parts.field.Field.{Field}
use Rattle.pg_schema.specs.declared.parts.message_type.ReservedFields.{ReservedFields}
use Rattle.pg_schema.specs.declared.rules.uses.Use.{Use}
use Rattle.pg_schema.specs.rules.Pairs.{all_pairs}

-- no number is in both
abbrev pub are_apart : Use → Use → Bool
are_apart a b = nat_lt a.last b.first || nat_lt b.last a.first

-- two values of one number, where the enum allows aliases
abbrev pub are_aliases : Bool → Use → Use → Bool
are_aliases allowed a b = allowed && not a.is_reserved && not b.is_reserved

abbrev pub is_used_once : Bool → List Use → Bool
is_used_once aliases uses = all_pairs (λ a b. are_apart a b || are_aliases aliases a b) uses

abbrev pub field_use : Field → Use
field_use f = record { first = f.number; last = f.number; is_reserved = false }

-- both ends are reserved too
abbrev pub reserved_use : ReservedFields → Use
reserved_use r = record { first = r.first; last = r.last; is_reserved = true }

abbrev pub message_uses : List Field → List ReservedFields → List Use
message_uses fields reserved = map field_use fields ++ map reserved_use reserved

-- a reserved item of a message: its ends are field numbers' bounds at most, and it doesn't fall. That 19,000 to 19,999
-- may be reserved, and that no end may lie out of bounds, is this project's choice
abbrev pub is_reserved_range : ReservedFields → Bool
is_reserved_range r = nat_le 1 r.first && nat_le r.first r.last && nat_lt r.last (2 ^ 29)

-- a value's number counted from the lowest, -2,147,483,648
abbrev pub from_lowest : ℤ → ℕ
from_lowest (pos n) = 2 ^ 31 + n
from_lowest (negsuc n) = 2 ^ 31 - suc n

abbrev pub value_use : EnumValue → Use
value_use v = record { first = from_lowest v.number; last = from_lowest v.number; is_reserved = false }

abbrev pub reserved_values_use : ReservedValues → Use
reserved_values_use r = record { first = from_lowest r.first; last = from_lowest r.last; is_reserved = true }

abbrev pub enum_uses : List EnumValue → List ReservedValues → List Use
enum_uses values reserved = map value_use values ++ map reserved_values_use reserved

-- a reserved item of an enum doesn't fall
abbrev pub is_value_range : ReservedValues → Bool
is_value_range r = nat_le (from_lowest r.first) (from_lowest r.last)
