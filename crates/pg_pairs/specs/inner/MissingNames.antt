-- For the program: whose name is missing among other values of its number.
use Rattle.std.specs.Prelude.{ℤ, List, map, filter, Bool, not, ◌&&◌}
use Rattle.std.specs.List.Sorted.{IsNonDecreasingBy}
use Rattle.pg_schema.specs.declared.parts.enum_type.EnumValue.{EnumValue}
use Rattle.pg_dyn.specs.views.ViewNames.{NamedNumber, declares, has_name}
use Rattle.pg_pairs.specs.views.LeastNumbers.{number_counts, number_word}

-- the other values have the number of this one, but none of them has its name too
abbrev pub is_missing : List NamedNumber → NamedNumber → Bool
is_missing others v = declares others v.number && not (has_name others v.number v.name)

-- the numbers of values that count and whose name is missing among the others
abbrev pub missing_numbers : Bool → List NamedNumber → List NamedNumber → List ℤ
missing_numbers zero values others =
    map (λ (v : NamedNumber). v.number) (filter (λ v. number_counts zero v.number && is_missing others v) values)

-- the words of the numbers rise, none below one before
abbrev pub RiseByWord : List EnumValue → Type 0
RiseByWord values = IsNonDecreasingBy (λ (v : EnumValue). number_word v.number) values
