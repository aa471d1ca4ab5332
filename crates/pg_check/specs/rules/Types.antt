-- Scalar types, and what a type name names (proto3 language guide, "Scalar Value Types"; proto3 language specification,
-- "Map field"; Encoding guide, "Packed Repeated Fields").
use Rattle.std.specs.Prelude.{ℕ, Bool, true, false, not, ◌&&◌, Option, Some, None, string_bytes, if◌then◌else◌}
use Rattle.pg_schema.specs.declared.parts.field.Scalar.{Scalar}
use Rattle.pg_schema.specs.declared.parts.field.Element.TheVariants as elements
use Rattle.pg_schema.specs.ScalarWords.{scalar_of}
use Rattle.pg_schema.specs.rules.Fields.{is_key}
use Rattle.pg_schema.specs.Shape.{is_packable as is_packable_element}
use Rattle.pg_link.specs.declared.uses.target.Target.{Target}
use Rattle.pg_link.specs.declared.uses.target.Target.TheVariants as targets
use Rattle.pg_check.specs.rules.Options.{is_alone}
use Rattle.pg_syntax.specs.declared.tree as tree

-- one word without a dot that is a scalar type's
abbrev pub scalar_named : tree.TypeName.TypeName → Option Scalar
scalar_named name =
    if not name.is_full && is_alone name.path.more.items then scalar_of (string_bytes name.path.first.text) else None

abbrev pub is_key_scalar : Option Scalar → Bool
is_key_scalar None = false
is_key_scalar (Some s) = is_key s

-- an integral type, bool or string
abbrev pub is_key_type : tree.TypeName.TypeName → Bool
is_key_type name = is_key_scalar (scalar_named name)

abbrev pub is_enum : Option Target → Bool
is_enum None = false
is_enum (Some (targets.Message n)) = false
is_enum (Some (targets.Enum n)) = true

abbrev pub is_packable : Option Scalar → Option Target → Bool
is_packable None target = is_enum target
is_packable (Some s) target = is_packable_element (elements.Scalar s)

-- a number, bool or enum; `targets` says what the type name that begins at a byte of the file names
abbrev pub is_packable_type : (ℕ → Option Target) → tree.TypeName.TypeName → Bool
is_packable_type targets name = is_packable (scalar_named name) (targets name.span.from)
