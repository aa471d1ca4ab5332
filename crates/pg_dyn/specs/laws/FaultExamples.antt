-- Why some bytes can't be read, and where: an example of each fault, in a message, a child and a map's entry.
use Rattle.std.specs.Prelude.{ℕ, true, List, [], ◌∷◌}
use Rattle.pg_schema.specs.declared.parts.field.Scalar.TheVariants.{Int32, Fixed32}
use Rattle.pg_schema.specs.declared.parts.field.Scalar.TheVariants as scalars
use Rattle.pg_schema.specs.declared.parts.field.Element.TheVariants as elements
use Rattle.pg_schema.specs.declared.parts.field.Presence.TheVariants.{Implicit, Explicit, Repeated, Map}
use Rattle.pg_schema.specs.Shape.{Shape, fields}
use Rattle.pg_wire.specs.Reading.{VarintTooLong, Truncated, BadTag, Group, BadWireType}
use Rattle.pg_dyn.specs.reading.Faults.{Code, Wire, NotUtf8, TooDeep, FirstFault}
use Rattle.pg_dyn.specs.laws.Examples.{first, field, scalar, member, of_fields, int32}

-- that is the first fault in bytes of the first type, whose messages may be so deep
abbrev pub IsFirstWithin : ℕ → Shape → List ℕ → Code → ℕ → Type 0
IsFirstWithin limit shape bytes code place = FirstFault shape limit (fields shape first) bytes code place

-- where none is too deep
abbrev pub IsFirst : Shape → List ℕ → Code → ℕ → Type 0
IsFirst = IsFirstWithin 100

abbrev pub text : Shape
text = of_fields (scalar 1 Implicit scalars.String ∷ [])

abbrev pub text_or_number : Shape
text_or_number = of_fields (member 1 scalars.String ∷ member 2 Int32 ∷ [])

abbrev pub packed : Shape
packed = of_fields (scalar 1 (Repeated true) Int32 ∷ [])

abbrev pub packed_of_four : Shape
packed_of_four = of_fields (scalar 1 (Repeated true) Fixed32 ∷ [])

-- a message with a message of its own type, and a string
abbrev pub child_and_text : Shape
child_and_text = of_fields (field 1 Explicit (elements.Message first) ∷ scalar 2 Implicit scalars.String ∷ [])

-- a message with a map from strings to messages of its own type
abbrev pub children_by_text : Shape
children_by_text = of_fields (field 1 (Map scalars.String) (elements.Message first) ∷ [])

-- ten bytes, all with the top bit
abbrev pub too_long : List ℕ → List ℕ
too_long later = 128 ∷ 128 ∷ 128 ∷ 128 ∷ 128 ∷ 128 ∷ 128 ∷ 128 ∷ 128 ∷ 128 ∷ later

pub record FaultExamples : Type 0 where
  pub varint_too_long : IsFirst int32 (8 ∷ too_long (1 ∷ [])) (Wire VarintTooLong) 0
  pub body_cut_off : IsFirst text (10 ∷ 5 ∷ 97 ∷ []) (Wire Truncated) 0
  -- after a record that has a reading
  pub no_field_number : IsFirst int32 (8 ∷ 5 ∷ 0 ∷ []) (Wire BadTag) 2
  pub group : IsFirst int32 (11 ∷ []) (Wire Group) 0
  pub unknown_wire_type : IsFirst int32 (14 ∷ []) (Wire BadWireType) 0
  pub not_text : IsFirst text (10 ∷ 1 ∷ 255 ∷ []) NotUtf8 0
  -- a record that wouldn't count, since one of another member follows, is still read
  pub not_text_before_another_member : IsFirst text_or_number (10 ∷ 1 ∷ 255 ∷ 16 ∷ 1 ∷ []) NotUtf8 0
  -- a fault within a packed list is at the list's record
  pub element_too_long : IsFirst packed (10 ∷ 10 ∷ too_long []) (Wire VarintTooLong) 0
  pub element_cut_off : IsFirst packed (10 ∷ 2 ∷ 1 ∷ 128 ∷ []) (Wire Truncated) 0
  pub element_of_three_bytes : IsFirst packed_of_four (10 ∷ 3 ∷ 0 ∷ 0 ∷ 0 ∷ []) (Wire Truncated) 0
  -- offsets count on into children and entries
  pub not_text_in_child : IsFirst child_and_text (10 ∷ 3 ∷ 18 ∷ 1 ∷ 255 ∷ []) NotUtf8 2
  pub cut_off_in_child : IsFirst child_and_text (10 ∷ 3 ∷ 18 ∷ 2 ∷ 97 ∷ []) (Wire Truncated) 2
  pub group_in_child : IsFirst child_and_text (10 ∷ 1 ∷ 11 ∷ []) (Wire Group) 2
  pub group_in_entry : IsFirst children_by_text (10 ∷ 1 ∷ 11 ∷ []) (Wire Group) 2
  -- the key of an entry of the message that an entry holds
  pub not_text_in_inner_entry : IsFirst children_by_text (10 ∷ 7 ∷ 18 ∷ 5 ∷ 10 ∷ 3 ∷ 10 ∷ 1 ∷ 255 ∷ []) NotUtf8 6
  -- the message itself, one inside, and the empty one that an entry without a value holds
  pub root_too_deep : IsFirstWithin 0 text (10 ∷ 1 ∷ 255 ∷ []) TooDeep 0
  pub child_too_deep : IsFirstWithin 1 child_and_text (10 ∷ 0 ∷ []) TooDeep 0
  pub missing_value_too_deep : IsFirstWithin 1 children_by_text (10 ∷ 0 ∷ []) TooDeep 0
  -- of two faults the first is reported, whichever it is
  pub too_deep_before_text : IsFirstWithin 1 child_and_text (10 ∷ 0 ∷ 18 ∷ 1 ∷ 255 ∷ []) TooDeep 0
  pub text_before_too_deep : IsFirstWithin 1 child_and_text (18 ∷ 1 ∷ 255 ∷ 10 ∷ 0 ∷ []) NotUtf8 0
  pub too_deep_behind_text : IsFirstWithin 1 child_and_text (18 ∷ 1 ∷ 97 ∷ 10 ∷ 0 ∷ []) TooDeep 3
  pub key_before_missing_value : IsFirstWithin 1 children_by_text (10 ∷ 3 ∷ 10 ∷ 1 ∷ 255 ∷ []) NotUtf8 2
