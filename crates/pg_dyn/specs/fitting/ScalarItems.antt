-- Items of scalar fields, as the program holds them.
use Rattle.std.specs.Prelude.{◌≡◌, ℕ, ⊤}
use Rattle.std.specs.Str.{IsValidUpTo}
use Rattle.pg_schema.specs.declared.parts.field.Scalar.{Scalar}
use Rattle.pg_schema.specs.declared.parts.field.Scalar.TheVariants as scalars
use Rattle.pg_dyn.specs.declared.message.Value.{Value}
use Rattle.pg_dyn.specs.declared.message.Value.TheVariants as values
use Rattle.pg_dyn.specs.word.Coding.{Form, Integer, Single, Double, Text, Raw, InRange, scalar_form}
use Rattle.pg_dyn.specs.message.Seen.{leaf_of}
use Rattle.pg_dyn.specs.word.WordOf.{IsInteger, IsIntegerOf}
use Rattle.pg_dyn.specs.declared.error.DynError.{DynError}
use Rattle.pg_dyn.specs.declared.error.DynError.TheVariants as errors

-- the item is one of the scalar: of its kind, in its range, a string UTF-8
abbrev pub IsItemOf : Scalar → Value → Type 0
IsItemOf s (values.Msg child) = ⊥
IsItemOf s value = InRange (scalar_form s) (leaf_of value)

-- of the two variants for bytes, the one that a field of the scalar keeps: `Text` in a string field, `Bytes` in others
abbrev pub IsKeptAs : Scalar → Value → Type 0
IsKeptAs scalars.String (values.Bytes bytes) = ⊥
IsKeptAs scalars.Bytes (values.Text text) = ⊥
IsKeptAs s value = ⊤

-- strings and bytes are one kind
abbrev pub HoldsBytes : Form → Type 0
HoldsBytes (Integer whole) = ⊥
HoldsBytes Single = ⊥
HoldsBytes Double = ⊥
HoldsBytes Text = ⊤
HoldsBytes Raw = ⊤

-- the item is of the scalar's kind, whatever its range; strings and bytes are one kind
abbrev pub IsKindOf : Form → Value → Type 0
IsKindOf (Integer whole) (values.Int n) = ⊤
IsKindOf Single (values.F32 bits) = ⊤
IsKindOf Double (values.F64 bits) = ⊤
IsKindOf f (values.Text text) = HoldsBytes f
IsKindOf f (values.Bytes bytes) = HoldsBytes f
IsKindOf f value = ⊥

-- an integer out of the scalar's range
abbrev pub IsOutOfRange : Scalar → Value → Type 0
IsOutOfRange s (values.Int n) = IsInteger (scalar_form s) × (IsIntegerOf (scalar_form s) n → ⊥)
IsOutOfRange s value = ⊥

-- bytes for a string of which just the first so many are the longest front that is UTF-8
abbrev pub IsNoText : Scalar → ℕ → Value → Type 0
IsNoText s at (values.Bytes bytes) = (scalar_form s ≡ Text) × IsValidUpTo bytes.items at
IsNoText s at value = ⊥

-- What is wrong with an item, by the error: its kind; of a right kind the number's range; the bytes of a string.
abbrev pub IsFaultOf : Scalar → Value → DynError → Type 0
IsFaultOf s value errors.WrongKind = IsKindOf (scalar_form s) value → ⊥
IsFaultOf s value errors.OutOfRange = IsOutOfRange s value
IsFaultOf s value (errors.NotUtf8 at) = IsNoText s at value
IsFaultOf s value e = ⊥
