-- Small types, what a program with the new one relays, and what the old one reads back.
use Rattle.std.specs.Prelude.{◌≡◌, pos, true, false, List, [], ◌∷◌, Some, None}
use Rattle.pg_schema.specs.declared.parts.field.Scalar.TheVariants.{Int32}
use Rattle.pg_schema.specs.declared.parts.field.Scalar.TheVariants as scalars
use Rattle.pg_schema.specs.declared.parts.field.Element.TheVariants as elements
use Rattle.pg_schema.specs.declared.parts.field.Presence.{Presence}
use Rattle.pg_schema.specs.declared.parts.field.Presence.TheVariants.{Implicit, Explicit, Repeated}
use Rattle.pg_schema.specs.Shape.{Shape, FieldShape}
use Rattle.pg_dyn.specs.message.Message.{Int, Bytes, Message, ends, holds, nests}
use Rattle.pg_dyn.specs.laws.Examples.{first, second, field, scalar, of_fields, int32, one, tree}
use Rattle.pg_pairs.specs.laws.SmallPairs.{both}
use Rattle.pg_pairs.specs.home.Returns.{packs, Returns}
use Rattle.pg_pairs.specs.home.Home.{home, comes_home, relayed}

-- a number and bytes
abbrev pub with_bytes : Shape
with_bytes = of_fields (scalar 1 Implicit Int32 ∷ scalar 2 Implicit scalars.Bytes ∷ [])

abbrev pub optional_text : List FieldShape
optional_text = scalar 1 Explicit scalars.String ∷ []

abbrev pub text : List FieldShape
text = scalar 1 Implicit scalars.String ∷ []

abbrev pub list_of_int32 : Presence → Shape
list_of_int32 presence = of_fields (scalar 1 presence Int32 ∷ [])

-- a type, and one that holds messages of it
abbrev pub held : List FieldShape → Shape
held fs = fs ∷ (field 1 Explicit (elements.Message first) ∷ []) ∷ []

-- a message of the second type, with an empty string in the one that it holds
abbrev pub holds_empty_text : Message
holds_empty_text = nests 1 None (one (Bytes [])) (ends [])

abbrev pub holds_nothing : Message
holds_nothing = nests 1 None (ends []) (ends [])

pub record HomeExamples : Type 0 where
  -- a field that the new type lacks comes after its own, and returns
  pub lacked_field_is_relayed : relayed int32 first (8 ∷ 5 ∷ 18 ∷ 1 ∷ 120 ∷ []) ≡ Some (8 ∷ 5 ∷ 18 ∷ 1 ∷ 120 ∷ [])
  pub unknown_records_stand_last : relayed int32 first (18 ∷ 1 ∷ 120 ∷ 8 ∷ 5 ∷ []) ≡ Some (8 ∷ 5 ∷ 18 ∷ 1 ∷ 120 ∷ [])
  pub lacked_field_is_home : comes_home with_bytes int32 first first
      (holds 1 None (Int (pos 5)) (holds 2 None (Bytes (120 ∷ [])) (ends []))) ≡ true
  -- optional string to string: the empty string isn't written again, and isn't missed
  pub zero_is_dropped : relayed (of_fields text) first (10 ∷ 0 ∷ []) ≡ Some []
  pub zero_is_not_missed : comes_home (of_fields optional_text) (of_fields text) first first (one (Bytes [])) ≡ true
  pub zero_of_a_child_is_not_missed : comes_home (held optional_text) (held text) second second holds_empty_text ≡ true
  -- where both have presence it would be
  pub zero_is_missed : home (of_fields optional_text) (of_fields optional_text) first first (one (Bytes [])) (ends [])
      ≡ false
  -- and so it would in a message under a number that the new type lacks
  pub outside_is_equal : comes_home (held optional_text) ([] ∷ [] ∷ []) second second holds_empty_text ≡ true
  pub zero_outside_is_missed : home (held optional_text) ([] ∷ [] ∷ []) second second holds_empty_text holds_nothing
      ≡ false
  -- int32 to repeated int32, packed: what is relayed isn't read as the old field; unpacked it is
  pub singular_is_packed : relayed (list_of_int32 (Repeated true)) first (8 ∷ 5 ∷ []) ≡ Some (10 ∷ 1 ∷ 5 ∷ [])
  pub packed_is_not_home : comes_home int32 (list_of_int32 (Repeated true)) first first (one (Int (pos 5))) ≡ false
  pub unpacked_is_home : comes_home int32 (list_of_int32 (Repeated false)) first first (one (Int (pos 5))) ≡ true
  pub packed_is_outside : Returns int32 (list_of_int32 (Repeated true)) (both first) → ⊥
  pub unpacked_returns : Returns int32 (list_of_int32 (Repeated false)) (both first)
  -- the root pair doesn't pack, and its child does
  pub root_does_not_pack : packs (held (scalar 1 Implicit Int32 ∷ [])) (held (scalar 1 (Repeated true) Int32 ∷ []))
      (both second) ≡ false
  pub packing_child_is_outside : Returns (held (scalar 1 Implicit Int32 ∷ []))
      (held (scalar 1 (Repeated true) Int32 ∷ [])) (both second) → ⊥
  -- a list that is packed in both types is no such field, nor does a type that leads to itself alone have one
  pub packed_in_both_returns : Returns (list_of_int32 (Repeated true)) (list_of_int32 (Repeated true)) (both first)
  pub tree_returns : Returns tree tree (both first)
