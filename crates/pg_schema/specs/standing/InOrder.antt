-- How a schema's indexes are laid out where a set states it: file after file message types and services in order of
-- declaration, enums scope by scope, those of the package before those of each message type. That is this profile's
-- choice.
use Rattle.std.specs.Prelude.{◌≡◌, ℕ, zero, suc, List, [], ◌∷◌, ◌++◌, flat_map, length, Option, Some, None, slice_get}
use Rattle.pg_schema.specs.declared.parts.field.TypeId.{TypeId}
use Rattle.pg_schema.specs.declared.parts.file.File.{File}
use Rattle.pg_schema.specs.declared.parts.message_type.MessageType.{MessageType}
use Rattle.pg_schema.specs.declared.parts.Parts.{Parts}
use Rattle.pg_schema.specs.rules.Scopes.{declared_services, enum_places}
use Rattle.pg_schema.specs.standing.Places.{most_deep, places_from}

abbrev pub inner_types : (List TypeId → List ℕ) → Option MessageType → List ℕ
inner_types inside None = []
inner_types inside (Some t) = inside t.nested_types.items

-- the indexes of message types, nested less deep than that: each before those inside it
abbrev pub types_below : (depth : ℕ) → List MessageType → List TypeId → List ℕ
types_below zero types ids = []
types_below (suc depth) types ids =
    flat_map (λ (id : TypeId). id.index ∷ inner_types (types_below depth types) (slice_get types id.index)) ids

abbrev pub inner_enums : (List TypeId → List ℕ) → Option MessageType → List ℕ
inner_enums inside None = []
inner_enums inside (Some t) = enum_places t.nested_enums.items ++ inside t.nested_types.items

-- those of the enums in these: a type's own before those of the types inside it
abbrev pub enums_below : (depth : ℕ) → List MessageType → List TypeId → List ℕ
enums_below zero types ids = []
enums_below (suc depth) types ids =
    flat_map (λ (id : TypeId). inner_enums (enums_below depth types) (slice_get types id.index)) ids

abbrev pub file_types : List MessageType → File → List ℕ
file_types types f = types_below most_deep types f.types.items

abbrev pub file_enums : List MessageType → File → List ℕ
file_enums types f = enum_places f.enums.items ++ enums_below most_deep types f.types.items

-- each at the index that is the next where it is declared
pub record StandInOrder (parts : Parts) : Type 0 where
  pub types : flat_map (file_types parts.types.items) parts.files.items ≡ places_from 0 (length parts.types.items)
  pub enums : flat_map (file_enums parts.types.items) parts.files.items ≡ places_from 0 (length parts.enums.items)
  pub services : declared_services parts.files.items ≡ places_from 0 (length parts.services.items)
