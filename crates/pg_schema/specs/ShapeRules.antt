-- What the shape of a schema keeps to (proto3 language specification, "Fields", "Map field").
use Rattle.std.specs.Prelude.{◌≡◌, ℕ, ◌^◌, ◌<◌, ◌≤◌, ◌⊎◌, ⊤, true, List, [], ◌∷◌, length, Option, None}
use Rattle.std.specs.List.{AllByRecursion}
use Rattle.pg_schema.specs.declared.parts.field.Element.{Element}
use Rattle.pg_schema.specs.declared.parts.field.Presence.{Presence}
use Rattle.pg_schema.specs.declared.parts.field.Element.TheVariants as elements
use Rattle.pg_schema.specs.declared.parts.field.Presence.TheVariants as presences
use Rattle.pg_schema.specs.Shape.{FieldShape, Shape, is_packable}
use Rattle.pg_schema.specs.rules.Fields.{is_key}

-- implicit fields are singular scalars or enums outside a oneof; members of a oneof are explicit (proto3 language
-- guide, "Field Presence", "Oneof")
abbrev pub PresenceFits : Presence → Element → Option ℕ → Type 0
PresenceFits presences.Implicit (elements.Scalar s) oneof = oneof ≡ None
PresenceFits presences.Implicit (elements.Enum e) oneof = oneof ≡ None
PresenceFits presences.Implicit (elements.Message t) oneof = ⊥
PresenceFits presences.Explicit element oneof = ⊤
PresenceFits (presences.Repeated packed) element oneof = (oneof ≡ None) × (packed ≡ true → is_packable element ≡ true)
PresenceFits (presences.Map key) element oneof = (oneof ≡ None) × (is_key key ≡ true)

-- a message type is one of that many types
abbrev pub ElementFits : ℕ → Element → Type 0
ElementFits types (elements.Scalar s) = ⊤
ElementFits types (elements.Enum e) = ⊤
ElementFits types (elements.Message t) = t.index < types

-- the numbers are those of the proto3 language guide, "Assigning Field Numbers"
pub record IsField (types : ℕ) (f : FieldShape) : Type 0 where
  pub number_above : 1 ≤ f.number
  pub number_below : f.number < 2 ^ 29
  pub not_reserved : (f.number < 19000) ⊎ (20000 ≤ f.number)
  pub presence_fits : PresenceFits f.presence f.element f.oneof
  pub element_fits : ElementFits types f.element

-- each number is below all that follow
abbrev pub Rising : List FieldShape → Type 0
Rising [] = ⊤
Rising (f ∷ fs) = AllByRecursion (λ g. f.number < g.number) fs × Rising fs

pub record IsType (types : ℕ) (fs : List FieldShape) : Type 0 where
  pub each : AllByRecursion (IsField types) fs
  pub rising : Rising fs

-- at most 4,096 types are this project's choice
pub record IsShape (shape : Shape) : Type 0 where
  pub few : length shape ≤ 4096
  pub each : AllByRecursion (IsType (length shape)) shape
