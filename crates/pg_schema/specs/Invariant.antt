-- What holds of the parts of every schema (proto3 language specification).
use Rattle.std.specs.Prelude.{◌≡◌, ℕ, List, Some}
use Rattle.pg_schema.specs.declared.parts.field.TypeId.{TypeId}
use Rattle.pg_schema.specs.declared.parts.message_type.MessageType.{MessageType}
use Rattle.pg_schema.specs.declared.parts.Parts.{Parts}
use Rattle.pg_schema.specs.Parts.{name_at, shape_of}
use Rattle.pg_schema.specs.ShapeRules.{IsShape}
use Rattle.pg_schema.specs.rules.Sound.{IsSound}

-- A full name is that of one message type (proto3 language specification, "Packages", "Message definition").
abbrev pub HasDistinctNames : List MessageType → Type 0
HasDistinctNames types =
    (a b : TypeId) (name : List ℕ) → name_at types a ≡ Some name → name_at types b ≡ Some name → a ≡ b

pub record IsSchema (parts : Parts) : Type 0 where
  pub shape : IsShape (shape_of parts)
  pub names : HasDistinctNames parts.types.items
  pub sound : IsSound parts
