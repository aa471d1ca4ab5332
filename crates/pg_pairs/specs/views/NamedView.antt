-- How the view of a name compares the enums of two schemas.
use Rattle.std.specs.Prelude.{ℤ, Bool, Option, Some, None, List, map, filter, not, ◌&&◌}
use Rattle.pg_schema.specs.declared.parts.enum_type.EnumType.{EnumType}
use Rattle.pg_schema.specs.declared.parts.Parts.{Parts}
use Rattle.pg_schema.specs.Parts.{enum_at}
use Rattle.pg_dyn.specs.declared.view_name.ViewName.{ViewName}
use Rattle.pg_dyn.specs.declared.view_name.ViewName.TheVariants as views
use Rattle.pg_dyn.specs.views.ViewNames.{view_named, NamedNumber, named_numbers, same_names, alike_under}
use Rattle.pg_pairs.specs.views.EnumView.{EnumView}
use Rattle.pg_pairs.specs.views.LeastNumbers.{least_number, number_counts}

-- which numbers of two enums are alike by name
abbrev pub alike_by_name : EnumType → EnumType → ℤ → Bool
alike_by_name = alike_under views.Names

-- the numbers of the old values that count and aren't alike
abbrev pub differing : Bool → List NamedNumber → List NamedNumber → List ℤ
differing zero old new =
    filter (λ n. number_counts zero n && not (same_names old new n)) (map (λ (v : NamedNumber). v.number) old)

-- the least number that isn't alike
abbrev pub least_by_name : EnumType → EnumType → Bool → Option ℤ
least_by_name old new zero = least_number (differing zero (named_numbers old) (named_numbers new))

-- the least number that isn't alike in two enums
abbrev pub least_under : ViewName → EnumType → EnumType → Bool → Option ℤ
least_under views.Numbers old new zero = None
least_under views.Names old new zero = least_by_name old new zero

-- without both enums no number differs
abbrev pub least_there : ViewName → Option EnumType → Option EnumType → Bool → Option ℤ
least_there view (Some old) (Some new) zero = least_under view old new zero
least_there view old new zero = None

-- what the view of that name finds alike, with the least number that isn't
abbrev pub seen_under : ViewName → Parts → Parts → EnumView
seen_under view old new =
    record {
      alike = view_named view old new;
      least = λ a b zero. least_there view (enum_at old a) (enum_at new b) zero;
    }
