-- Fields of the written schema, and the numbers that they hold.
use Rattle.std.specs.Prelude.{◌≡◌, ℕ, Some, ⊤, ℤ}
use Rattle.pg_schema.specs.declared.parts.field.Element.{Element}
use Rattle.pg_schema.specs.declared.parts.field.TypeId.{TypeId}
use Rattle.pg_schema.specs.Shape.{fields, field_at}
use Rattle.pg_schema.specs.declared.parts.field.Element.TheVariants as elements
use Rattle.pg_schema.specs.declared.parts.field.Scalar.TheVariants as scalars
use Rattle.pg_set.specs.descriptor.Descriptor.{descriptor_shape, one, many}
use Rattle.pg_wire.specs.Words.{IsBetween}

-- the singular field of that number of the type
abbrev pub HasOne : TypeId → ℕ → Element → Type 0
HasOne type number element = field_at (fields descriptor_shape type) number ≡ Some (one number element)

-- the repeated one
abbrev pub HasMany : TypeId → ℕ → Element → Type 0
HasMany type number element = field_at (fields descriptor_shape type) number ≡ Some (many number element)

-- whole numbers of 32 bits, as an enum's are
abbrev pub IsInt32 : Element → Type 0
IsInt32 (elements.Scalar scalars.Int32) = ⊤
IsInt32 (elements.Enum e) = ⊤
IsInt32 element = ⊥

-- The number of 32 bits is one of these; a flag is 0 or 1.
abbrev pub IsWhole : Element → ℤ → Type 0
IsWhole (elements.Scalar scalars.Bool) n = IsBetween 0 2 n
IsWhole element n = IsInt32 element
