-- Small pairs of types with all their causes, as they are told.
use Rattle.std.specs.Prelude.{◌≡◌, ℕ, false, List, [], ◌∷◌, Some}
use Rattle.pg_schema.specs.declared.parts.field.Scalar.{Scalar}
use Rattle.pg_schema.specs.declared.parts.field.Scalar.TheVariants.{Int32, Uint32, Sint32, Fixed64}
use Rattle.pg_schema.specs.declared.parts.field.Scalar.TheVariants as scalars
use Rattle.pg_schema.specs.declared.parts.field.Element.TheVariants as elements
use Rattle.pg_schema.specs.declared.parts.field.Presence.TheVariants.{Implicit, Explicit, Repeated, Map}
use Rattle.pg_schema.specs.Shape.{FieldShape}
use Rattle.pg_dyn.specs.laws.Examples.{first, scalar, member, of_fields}
use Rattle.pg_pairs.specs.declared.choices.case.Case.TheVariants as cases
use Rattle.pg_pairs.specs.views.EnumView.{by_numbers}
use Rattle.pg_pairs.specs.choices.Choices.{choice}
use Rattle.pg_pairs.specs.choices.Told.{Told, told_alone, told_causes}
use Rattle.pg_pairs.specs.laws.SmallPairs.{both}

abbrev pub HasCauses : List FieldShape → List FieldShape → List Told → Type 0
HasCauses fs gs ts = told_causes by_numbers (of_fields fs) (of_fields gs) (both first) ≡ ts

-- these fields, and the case that two of them meet
abbrev pub told_two : List ℕ → ℕ → ℕ → ℕ → Told
told_two numbers number part cost = record { numbers = numbers; choice = choice number cases.Oneof part cost }

-- a member of another oneof
abbrev pub of_other : ℕ → Scalar → FieldShape
of_other number s = record { number = number; presence = Explicit; element = elements.Scalar s; oneof = Some 1 }

pub record SmallTold : Type 0 where
  pub two_into_one_oneof : HasCauses (scalar 1 Implicit Int32 ∷ scalar 2 Implicit Int32 ∷ [])
      (member 1 Int32 ∷ member 2 Int32 ∷ []) (told_two (1 ∷ 2 ∷ []) 1 2 4 ∷ [])
  pub three_into_one_oneof : HasCauses (scalar 1 Implicit Int32 ∷ scalar 2 Implicit Int32 ∷ scalar 3 Implicit Int32 ∷ [])
      (member 1 Int32 ∷ member 2 Int32 ∷ member 3 Int32 ∷ []) (told_two (1 ∷ 2 ∷ 3 ∷ []) 1 2 4 ∷ [])
  -- the cheapest two of them
  pub the_first_is_dear :
      HasCauses (scalar 1 Implicit Fixed64 ∷ scalar 2 Implicit Int32 ∷ scalar 3 Implicit Int32 ∷ [])
      (member 1 Fixed64 ∷ member 2 Int32 ∷ member 3 Int32 ∷ []) (told_two (1 ∷ 2 ∷ 3 ∷ []) 2 3 4 ∷ [])
  -- two members of one old oneof don't meet, and each meets a third field
  pub an_old_oneof_alone : HasCauses (member 1 Int32 ∷ member 2 Int32 ∷ [])
      (of_other 1 Int32 ∷ of_other 2 Int32 ∷ []) []
  pub beside_an_old_oneof : HasCauses (member 1 Fixed64 ∷ member 2 Int32 ∷ scalar 3 Implicit Int32 ∷ [])
      (member 1 Fixed64 ∷ member 2 Int32 ∷ member 3 Int32 ∷ []) (told_two (1 ∷ 2 ∷ 3 ∷ []) 2 3 4 ∷ [])
  pub two_new_oneofs :
      HasCauses (scalar 1 Implicit Int32 ∷ scalar 2 Implicit Int32 ∷ scalar 3 Implicit Int32 ∷ scalar 4 Implicit Int32 ∷ [])
      (member 1 Int32 ∷ of_other 2 Int32 ∷ member 3 Int32 ∷ of_other 4 Int32 ∷ [])
      (told_two (1 ∷ 3 ∷ []) 1 3 4 ∷ told_two (2 ∷ 4 ∷ []) 2 4 4 ∷ [])
  -- a field that breaks by itself is told before its oneof
  pub a_gap_beside : HasCauses (scalar 1 Implicit scalars.Bool ∷ scalar 2 Implicit Int32 ∷ [])
      (member 1 Sint32 ∷ member 2 Int32 ∷ [])
      (told_alone (choice 1 cases.Gap 0 2) ∷ told_two (1 ∷ 2 ∷ []) 1 2 4 ∷ [])
  -- a field with two causes, and a map with a gap in its key and one in its value
  pub a_gap_and_a_list : HasCauses (scalar 1 (Repeated false) scalars.Bool ∷ []) (scalar 1 Explicit Sint32 ∷ [])
      (told_alone (choice 1 cases.Gap 0 2) ∷ told_alone (choice 1 cases.List 0 4) ∷ [])
  pub a_key_and_a_value : HasCauses (scalar 1 (Map Uint32) Uint32 ∷ []) (scalar 1 (Map Int32) Int32 ∷ [])
      (told_alone (choice 1 cases.Map 1 10) ∷ told_alone (choice 1 cases.Map 2 10) ∷ [])
