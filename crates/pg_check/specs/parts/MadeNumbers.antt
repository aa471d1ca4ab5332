-- Numbers as a schema has them. A number that its kind can't have comes to 0; a file that breaks no rule has none.
use Rattle.std.specs.Prelude.{ℕ, ◌-◌, ◌^◌, ℤ, pos, neg_ℤ, false, nat_lt, nat_le, if◌then◌else◌}
use Rattle.pg_schema.specs.declared.parts.enum_type.ReservedValues.{ReservedValues}
use Rattle.pg_schema.specs.declared.parts.message_type.ReservedFields.{ReservedFields}
use Rattle.pg_check.specs.declared.rules.numbers.Numbers.{Numbers}
use Rattle.pg_check.specs.rules.Numbers.{highest_field, highest_value, is_within, lowest_field, lowest_value, rank}

-- the number that is counted so from -2^64
abbrev pub of_rank : ℕ → ℤ
of_rank r = if nat_le (rank false 0) r then pos (r - rank false 0) else neg_ℤ (pos (rank false 0 - r))

-- of a value or a reserved item of an enum
abbrev pub value_number : ℕ → ℤ
value_number r = if is_within lowest_value highest_value r then of_rank r else pos 0

-- of a field or a reserved item of a message
abbrev pub field_number : ℕ → ℕ
field_number r = if is_within lowest_field highest_field r then r - rank false 0 else 0

abbrev pub value_range : Numbers → ReservedValues
value_range r = record { first = value_number r.first; last = value_number r.last }

abbrev pub field_range : Numbers → ReservedFields
field_range r = record { first = field_number r.first; last = field_number r.last }

-- an index of at most 32 bits
abbrev pub index_of : ℕ → ℕ
index_of place = if nat_lt place (2 ^ 32) then place else 0
