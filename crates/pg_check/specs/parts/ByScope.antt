-- What is in which scope: message types and enums by their indexes, in order of declaration (proto3 language
-- specification, "Message definition", "Package").
use Rattle.std.specs.List.{filter}
use Rattle.std.specs.Prelude.{ℕ, ◌+◌, List, [], ◌∷◌, map}
use Rattle.std.specs.Str.{bytes_eq}
use Rattle.pg_schema.specs.declared.parts.field.EnumId.{EnumId}
use Rattle.pg_schema.specs.declared.parts.field.TypeId.{TypeId}
use Rattle.pg_check.specs.parts.MadeNumbers.{index_of}

-- a scope that declares something, and the index of that in a schema
pub record Placed : Type 0 where
  pub scope : List ℕ
  pub index : ℕ

-- what these scopes declare one by one, where so many come before
abbrev pub placed_from : ℕ → List (List ℕ) → List Placed
placed_from before [] = []
placed_from before (scope ∷ scopes) = record { scope = scope; index = before } ∷ placed_from (before + 1) scopes

-- the indexes of what the scope declares
abbrev pub places_in : List ℕ → List Placed → List ℕ
places_in scope list = map (λ (p : Placed). p.index) (filter (λ (p : Placed). bytes_eq scope p.scope) list)

abbrev pub type_id : ℕ → TypeId
type_id index = record { index = index_of index }

abbrev pub enum_id : ℕ → EnumId
enum_id index = record { index = index }

-- the message types that the scope declares
abbrev pub types_in : List ℕ → List Placed → List TypeId
types_in scope list = map type_id (places_in scope list)

abbrev pub enums_in : List ℕ → List Placed → List EnumId
enums_in scope list = map enum_id (places_in scope list)
