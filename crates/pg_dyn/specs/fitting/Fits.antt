-- Messages that fit a schema.
use Rattle.std.specs.Prelude.{◌≡◌, ℕ, ◌<◌, ⊤, Bool, true, false, length, List, Option, Some, None}
use Rattle.pg_schema.specs.declared.parts.field.Element.{Element}
use Rattle.pg_schema.specs.declared.parts.field.Element.TheVariants as elements
use Rattle.pg_schema.specs.declared.parts.field.Scalar.{Scalar}
use Rattle.pg_schema.specs.declared.parts.field.Scalar.TheVariants as scalars
use Rattle.pg_schema.specs.Shape.{Shape, FieldShape, fields, field_at, is_repeated}
use Rattle.pg_dyn.specs.message.Kept.{Kept, ends, holds, nests, type_of, message_of}
use Rattle.pg_dyn.specs.encoding.Encoding.{child_type}
use Rattle.pg_dyn.specs.fitting.Belonging.{IsMessage}

-- whether the items of the field with the number are a list
abbrev pub is_listed_by : Option FieldShape → Bool
is_listed_by (Some f) = is_repeated f.presence
is_listed_by None = false

abbrev pub is_listed : List FieldShape → ℕ → Bool
is_listed fs number = is_listed_by (field_at fs number)

abbrev pub is_string : Element → Bool
is_string (elements.Scalar s) = of s
  where
    of : Scalar → Bool
    of scalars.String = true
    of s = false
is_string (elements.Enum e) = false
is_string (elements.Message t) = false

-- whether the items of the field are strings (proto3 language guide, "Scalar Value Types")
abbrev pub is_string_by : Option FieldShape → Bool
is_string_by (Some f) = is_string f.element
is_string_by None = false

-- just the items of repeated fields are in lists, just those of string fields are strings, and each message inside says that it is of
-- the type of its field
abbrev pub PartsAgree : Shape → Kept → Type 0
PartsAgree shape (ends type unknown) = ⊤
PartsAgree shape (holds number key manner leaf later) =
    (is_listed (fields shape (type_of later)) number ≡ manner.listed)
    × (manner.text ≡ is_string_by (field_at (fields shape (type_of later)) number)) × PartsAgree shape later
PartsAgree shape (nests number key listed child later) =
    (is_listed (fields shape (type_of later)) number ≡ listed) × (child_type (fields shape (type_of later)) number ≡ type_of child) × PartsAgree shape child
    × PartsAgree shape later

-- the message is one of the type that it says, which is a type of the schema
pub record Fits (shape : Shape) (m : Kept) : Type 0 where
  pub type_is_there : (type_of m).index < length shape
  pub is_message : IsMessage shape (type_of m) (message_of m)
  pub parts_agree : PartsAgree shape m
