-- Small pairs of types with all their choices, and the children of one.
use Rattle.std.specs.Prelude.{◌≡◌, ℕ, nat_eq, if◌then◌else◌, true, false, List, [], ◌∷◌, ◌++◌, Option, Some, None}
use Rattle.pg_schema.specs.declared.parts.field.TypeId.{TypeId}
use Rattle.pg_schema.specs.declared.parts.field.Scalar.{Scalar}
use Rattle.pg_schema.specs.declared.parts.field.Scalar.TheVariants.{Int32, Uint32, Fixed32, Sint32, String, Bytes}
use Rattle.pg_schema.specs.declared.parts.field.Scalar.TheVariants as scalars
use Rattle.pg_schema.specs.declared.parts.field.Element.TheVariants as elements
use Rattle.pg_schema.specs.declared.parts.field.Presence.TheVariants.{Implicit, Explicit, Repeated, Map}
use Rattle.pg_schema.specs.Shape.{FieldShape}
use Rattle.pg_dyn.specs.laws.Examples.{first, second, field, scalar, member, of_fields, linked}
use Rattle.pg_pairs.specs.declared.choices.case.Case.TheVariants as cases
use Rattle.pg_pairs.specs.declared.choices.choice.Choice.{Choice}
use Rattle.pg_pairs.specs.declared.choices.choice.Pair.{Pair}
use Rattle.pg_pairs.specs.views.EnumView.{by_numbers}
use Rattle.pg_pairs.specs.choices.Choices.{Table, choices, choice, no_bounds}
use Rattle.pg_pairs.specs.bounds.Covering.{children}

abbrev pub both : TypeId → Pair
both type = record { old = type; new = type }

abbrev pub HasChoices : List FieldShape → List FieldShape → List Choice → Type 0
HasChoices fs gs cs = choices by_numbers no_bounds (of_fields fs) (of_fields gs) (both first) ≡ cs

-- a type that leads back to itself twice
abbrev pub loops : List FieldShape
loops = field 1 Explicit (elements.Message first) ∷ field 2 (Repeated false) (elements.Message first) ∷ []

-- such a type with a field of numbers besides
abbrev pub looped : Scalar → List FieldShape
looped s = loops ++ scalar 3 Implicit s ∷ []

-- of two types that are the same on both sides, the bound of the first and of the second
abbrev pub of_two : Option ℕ → Option ℕ → Table
of_two a b pair = if nat_eq pair.old.index 0 then Some a else Some b

pub record SmallPairs : Type 0 where
  pub int32_unchanged : HasChoices (scalar 1 Implicit Int32 ∷ []) (scalar 1 Implicit Int32 ∷ []) []
  pub int32_to_uint32 : HasChoices (scalar 1 Implicit Int32 ∷ []) (scalar 1 Implicit Uint32 ∷ [])
      (choice 1 cases.Gap 0 11 ∷ [])
  pub uint32_to_int32 : HasChoices (scalar 1 Implicit Uint32 ∷ []) (scalar 1 Implicit Int32 ∷ [])
      (choice 1 cases.Gap 0 6 ∷ [])
  pub int32_to_bool : HasChoices (scalar 1 Implicit Int32 ∷ []) (scalar 1 Implicit scalars.Bool ∷ [])
      (choice 1 cases.Gap 0 2 ∷ [])
  pub optional_text_to_text : HasChoices (scalar 1 Explicit String ∷ []) (scalar 1 Implicit String ∷ []) []
  pub optional_text_to_message : HasChoices (scalar 1 Explicit String ∷ [])
      (field 1 Explicit (elements.Message first) ∷ []) (choice 1 cases.Unlike 0 2 ∷ [])
  pub bytes_to_text : HasChoices (scalar 1 Implicit Bytes ∷ []) (scalar 1 Implicit String ∷ [])
      (choice 1 cases.Gap 0 3 ∷ [])
  pub texts_to_optional_text : HasChoices (scalar 1 (Repeated false) String ∷ []) (scalar 1 Explicit String ∷ [])
      (choice 1 cases.List 0 4 ∷ [])
  pub texts_to_text : HasChoices (scalar 1 (Repeated false) String ∷ []) (scalar 1 Implicit String ∷ [])
      (choice 1 cases.List 0 2 ∷ [])
  pub packed_to_optional : HasChoices (scalar 1 (Repeated true) Int32 ∷ []) (scalar 1 Explicit Int32 ∷ [])
      (choice 1 cases.List 0 3 ∷ [])
  pub unpacked_to_optional : HasChoices (scalar 1 (Repeated false) Int32 ∷ []) (scalar 1 Explicit Int32 ∷ [])
      (choice 1 cases.List 0 4 ∷ [])
  pub two_into_one_oneof : HasChoices (scalar 1 Implicit Int32 ∷ scalar 2 Implicit Int32 ∷ [])
      (member 1 Int32 ∷ member 2 Int32 ∷ []) (choice 1 cases.Oneof 2 4 ∷ [])
  pub two_optional_into_one_oneof : HasChoices (scalar 1 Explicit Int32 ∷ scalar 2 Explicit Int32 ∷ [])
      (member 1 Int32 ∷ member 2 Int32 ∷ []) (choice 1 cases.Oneof 2 4 ∷ [])
  pub oneof_unchanged : HasChoices (member 1 Int32 ∷ member 2 Int32 ∷ []) (member 1 Int32 ∷ member 2 Int32 ∷ []) []
  pub bool_to_sint32 : HasChoices (scalar 3 Implicit scalars.Bool ∷ []) (scalar 3 Implicit Sint32 ∷ [])
      (choice 3 cases.Gap 0 2 ∷ [])
  pub gap_at_number_16 : HasChoices (scalar 1 Implicit Uint32 ∷ scalar 16 Implicit Int32 ∷ [])
      (scalar 1 Implicit Int32 ∷ scalar 16 Implicit scalars.Bool ∷ [])
      (choice 1 cases.Gap 0 6 ∷ choice 16 cases.Gap 0 3 ∷ [])
  pub gap_at_the_greatest_number : HasChoices (scalar 536870911 Implicit Int32 ∷ [])
      (scalar 536870911 Implicit scalars.Bool ∷ []) (choice 536870911 cases.Gap 0 6 ∷ [])
  pub map_key_to_int32 : HasChoices (scalar 1 (Map Uint32) String ∷ []) (scalar 1 (Map Int32) String ∷ [])
      (choice 1 cases.Map 1 10 ∷ [])
  pub map_key_is_not_accepted : HasChoices (scalar 1 (Map Int32) scalars.Bool ∷ [])
      (scalar 1 (Map Fixed32) scalars.Bool ∷ []) (choice 1 cases.Map 0 6 ∷ [])
  pub lacked_field_comes_back : HasChoices (scalar 1 Implicit Int32 ∷ scalar 2 Implicit String ∷ [])
      (scalar 1 Implicit Int32 ∷ []) []
  -- a child whose least message has 6 bytes; and one of 128 bytes, whose length takes two
  pub child_breaks : choices by_numbers (λ pair. Some (Some 6)) (linked Uint32) (linked Int32) (both second)
      ≡ choice 1 cases.Child 0 8 ∷ choice 2 cases.Child 0 8 ∷ []
  pub child_of_two_length_bytes : choices by_numbers (λ pair. Some (Some 128)) (linked Uint32) (linked Int32)
      (both second) ≡ choice 1 cases.Child 0 131 ∷ choice 2 cases.Child 0 131 ∷ []
  pub children_of_a_linked_type : children (linked Uint32) (linked Int32) (both second) ≡ both second ∷ both first ∷ []
  -- a type whose one field is of the type itself, under a table with one bound for each pair: of 126 bytes the length
  -- takes one byte, of 128 two
  pub chain_of_one_length_byte : choices by_numbers (λ pair. Some (Some 126))
      (of_fields (field 1 Explicit (elements.Message first) ∷ []))
      (of_fields (field 1 Explicit (elements.Message first) ∷ [])) (both first) ≡ choice 1 cases.Child 0 128 ∷ []
  pub chain_of_two_length_bytes : choices by_numbers (λ pair. Some (Some 128))
      (of_fields (field 1 Explicit (elements.Message first) ∷ []))
      (of_fields (field 1 Explicit (elements.Message first) ∷ [])) (both first) ≡ choice 1 cases.Child 0 131 ∷ []
  -- a type that reaches only itself, unchanged, has no choice where no message of it breaks
  pub loop_unchanged : choices by_numbers (λ pair. Some None) (of_fields loops) (of_fields loops) (both first) ≡ []
  pub child_of_a_loop : children (of_fields loops) (of_fields loops) (both first) ≡ both first ∷ []
  -- with a field beside that changed, the field's own choice is the cheapest, also beside those through the type itself
  pub loop_changed : choices by_numbers (λ pair. Some (Some 2)) (of_fields (looped scalars.Bool))
      (of_fields (looped Sint32)) (both first)
      ≡ choice 1 cases.Child 0 4 ∷ choice 2 cases.Child 0 4 ∷ choice 3 cases.Gap 0 2 ∷ []
  -- a type that changed and breaks in 6 bytes, and one that holds it and itself: its own bound is 8
  pub nested_type_alone : choices by_numbers (of_two (Some 6) (Some 8)) (linked Uint32) (linked Int32) (both first)
      ≡ choice 1 cases.Gap 0 6 ∷ []
  pub nested_type_breaks : choices by_numbers (of_two (Some 6) (Some 8)) (linked Uint32) (linked Int32) (both second)
      ≡ choice 1 cases.Child 0 10 ∷ choice 2 cases.Child 0 8 ∷ []
