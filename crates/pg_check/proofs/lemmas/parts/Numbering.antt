-- How linking numbers message types and enums, and the positions of enums scope by scope.
use Rattle.std.specs.Prelude.{◌≡◌, ℕ, List, ◌∷◌, Some, map, flat_map, get_or, slice_get}
use Rattle.pg_link.specs.uses.Targets.{all_declared, enum_names, message_names}
use Rattle.pg_link.specs.walk.Walk.{Entry}
use Rattle.pg_check.specs.parts.EnumPlaces.{enum_places, scoped_names}
use Rattle.pg_check.specs.rules.Outline.{Message, file_messages}

abbrev pub message_full : Message → List ℕ
message_full m = m.full

-- the full names of all message types in order of declaration
abbrev pub declared_messages : List Entry → List (List ℕ)
declared_messages files = flat_map (λ (e : Entry). map message_full (file_messages e.1.tree)) files

-- Linking numbers message types in order of declaration: the names that it numbers are those, each with a dot in front. The enum at the index of a
-- number bears the name of this number, without the dot.
pub record AreNumbered (files : List Entry) : Type 0 where
  pub types : message_names (all_declared files) ≡ map (λ name. 46 ∷ name) (declared_messages files)
  pub placed : (number : ℕ) (full : List ℕ) → slice_get (enum_names (all_declared files)) number ≡ Some full
      → (name : List ℕ) × (full ≡ 46 ∷ name) × (slice_get (scoped_names files) (get_or (enum_places files) number 0) ≡ Some name)
