-- Items by their names and numbers.
use Rattle.std.specs.Prelude.{ℕ, ℤ, List, Option}
use Rattle.std.specs.List.{position_from}
use Rattle.std.specs.Ordering.{int_eq}
use Rattle.std.specs.Str.{bytes_eq}
use Rattle.pg_schema.specs.declared.parts.enum_type.EnumValue.{EnumValue}

-- the index of the first item of that name
abbrev pub place_of : {A : Type 0} → (A → List ℕ) → List A → List ℕ → Option ℕ
place_of name_of items name = position_from (λ item. bytes_eq name (name_of item)) 0 items

-- the index of the first value of that number
abbrev pub place_of_number : List EnumValue → ℤ → Option ℕ
place_of_number values number = position_from (λ (v : EnumValue). int_eq number v.number) 0 values
