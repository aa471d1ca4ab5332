-- What holds of each enum, taken by itself (proto3 language guide, "Enumerations", "Reserved Values").
use Rattle.std.specs.Prelude.{ℕ, ℤ, pos, negsuc, Bool, false, nat_eq, ◌&&◌, List, [], ◌∷◌, map}
use Rattle.std.specs.List.{list_all}
use Rattle.std.specs.String.{string_bytes}
use Rattle.pg_schema.specs.declared.parts.enum_type.EnumType.{EnumType}
use Rattle.pg_schema.specs.declared.parts.enum_type.EnumValue.{EnumValue}
use Rattle.pg_schema.specs.rules.Fields.{stated_or}
use Rattle.pg_schema.specs.rules.TextSets.{are_named_once}
use Rattle.pg_schema.specs.rules.Uses.{enum_uses, is_used_once, is_value_range}
use Rattle.pg_schema.specs.rules.Words.{is_word}

abbrev pub is_zero : ℤ → Bool
is_zero (pos n) = nat_eq n 0
is_zero (negsuc n) = false

-- there is a value, and the first is 0
abbrev pub begins_with_zero : List EnumValue → Bool
begins_with_zero [] = false
begins_with_zero (v ∷ vs) = is_zero v.number

abbrev pub value_names : List EnumValue → List (List ℕ)
value_names values = map (λ (v : EnumValue). string_bytes v.name) values

abbrev pub is_value : EnumValue → Bool
is_value v = is_word (string_bytes v.name)

-- Of two values with one number only where `allow_alias = true` is stated; that it may be stated without need, or be
-- false, is this project's choice. No value has a reserved number or name.
abbrev pub is_enum : EnumType → Bool
is_enum e =
    begins_with_zero e.values.items && list_all is_value e.values.items
    && list_all is_value_range e.reserved_numbers.items
    && are_named_once (value_names e.values.items) (map string_bytes e.reserved_names.items)
    && is_used_once (stated_or e.options.allow_alias false) (enum_uses e.values.items e.reserved_numbers.items)
