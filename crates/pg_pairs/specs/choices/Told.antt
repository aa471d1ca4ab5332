-- Causes as they are told: a field, or all fields that come into one oneof of the new type and meet there.
use Rattle.std.specs.Prelude.{ℕ, nat_eq, List, [], ◌∷◌, ◌++◌, map, filter, flat_map, Bool, false, if◌then◌else◌, Option, Some, None}
use Rattle.pg_schema.specs.Shape.{Shape, FieldShape, fields, field_at}
use Rattle.pg_dyn.specs.reading.Content.{same_oneof}
use Rattle.pg_pairs.specs.declared.choices.choice.Choice.{Choice}
use Rattle.pg_pairs.specs.declared.choices.choice.Pair.{Pair}
use Rattle.pg_pairs.specs.declared.choices.told.FieldCause.{FieldCause}
use Rattle.pg_pairs.specs.views.EnumView.{EnumView}
use Rattle.pg_pairs.specs.choices.Choices.{affordable, cheapest, choices_beside, joined_choices, no_bounds}
use Rattle.pg_pairs.specs.choices.NewOneof.{new_oneof}

-- the numbers of the fields, and a cheapest way in which they break
pub record Told : Type 0 where
  pub numbers : List ℕ
  pub choice : Choice

-- one field by itself
abbrev pub told_alone : Choice → Told
told_alone c = record { numbers = c.number ∷ []; choice = c }

-- the fields that come into that oneof of the new type
abbrev pub coming : List FieldShape → Option ℕ → List FieldShape → List FieldShape
coming gs oneof fs = filter (λ f. same_oneof oneof (new_oneof gs f)) fs

-- the choices of each two of these fields that meet, by number and partner
abbrev pub meetings : List FieldShape → List FieldShape → List Choice
meetings gs [] = []
meetings gs (f ∷ later) = joined_choices gs f later ++ meetings gs later

abbrev pub told_by : List FieldShape → Option Choice → List Told
told_by fs None = []
told_by fs (Some c) = record { numbers = map (λ (f : FieldShape). f.number) fs; choice = c } ∷ []

-- fields of one new oneof, by a cheapest two of them that meet; nothing where no two meet
abbrev pub told_together : List FieldShape → List FieldShape → List Told
told_together gs fs = told_by fs (cheapest (affordable (meetings gs fs)))

-- the first of the fields has that number
abbrev pub is_first : ℕ → List FieldShape → Bool
is_first number [] = false
is_first number (f ∷ fs) = nat_eq f.number number

-- what a field breaks by itself, by case and part
abbrev pub told_own : EnumView → List FieldShape → FieldShape → List Told
told_own enum_view gs f = map told_alone (affordable (choices_beside enum_view no_bounds f (field_at gs f.number)))

-- a new oneof, at the first field that comes into it
abbrev pub told_oneof : List FieldShape → List FieldShape → FieldShape → List Told
told_oneof gs fs f =
    if is_first f.number (coming gs (new_oneof gs f) fs) then told_together gs (coming gs (new_oneof gs f) fs) else []

abbrev pub told_at : EnumView → List FieldShape → List FieldShape → FieldShape → List Told
told_at enum_view gs fs f = told_own enum_view gs f ++ told_oneof gs fs f

-- the causes of a pair, by the first number, case and part
abbrev pub told_causes : EnumView → Shape → Shape → Pair → List Told
told_causes enum_view old new pair =
    flat_map (told_at enum_view (fields new pair.new) (fields old pair.old)) (fields old pair.old)

-- a cause as the program holds it
abbrev pub told_of : FieldCause → Told
told_of cause = record { numbers = cause.numbers.items; choice = cause.choice }
