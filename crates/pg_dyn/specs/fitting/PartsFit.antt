-- The parts of a message that fits, one by one (proto3 language guide, "Field Presence", "Maps").
use Rattle.std.specs.Prelude.{◌≡◌, ⊤, List, [], ◌∷◌, Some}
use Rattle.std.specs.List.{AllByRecursion}
use Rattle.pg_schema.specs.declared.parts.field.TypeId.{TypeId}
use Rattle.pg_schema.specs.declared.parts.field.Element.{Element}
use Rattle.pg_schema.specs.declared.parts.field.Element.TheVariants as elements
use Rattle.pg_schema.specs.declared.parts.field.Scalar.{Scalar}
use Rattle.pg_schema.specs.declared.parts.field.Scalar.TheVariants.{Int32}
use Rattle.pg_schema.specs.declared.parts.field.Presence.{Presence}
use Rattle.pg_schema.specs.Shape.{Shape, FieldShape, fields, field_at, is_repeated}
use Rattle.pg_dyn.specs.fitting.Belonging.{KeyFits, LeafFits, MayFollow}
use Rattle.pg_dyn.specs.word.Coding.{InRange, scalar_form}
use Rattle.pg_dyn.specs.fitting.Fits.{Fits, is_string}
use Rattle.pg_dyn.specs.message.KeptParts.{KeptItem, Plain, Msg}
use Rattle.pg_dyn.specs.message.Kept.{type_of}
use Rattle.pg_dyn.specs.message.Message.{Part}

-- the item is one of the scalar: of its kind, in its range, a string UTF-8
abbrev pub IsScalarItem : Scalar → KeptItem → Type 0
IsScalarItem s (Plain listed leaf) = InRange (scalar_form s) leaf
IsScalarItem s (Msg listed child) = ⊥

-- the item is one of the element; an enum takes the numbers of int32
abbrev pub IsElementItem : Shape → Element → KeptItem → Type 0
IsElementItem shape (elements.Scalar s) item = IsScalarItem s item
IsElementItem shape (elements.Enum e) item = IsScalarItem Int32 item
IsElementItem shape (elements.Message t) (Plain listed leaf) = ⊥
IsElementItem shape (elements.Message t) (Msg listed child) = Fits shape child × (type_of child ≡ t)

-- so is it, and it is kept as a string just where the scalar is string
abbrev pub IsScalarKept : Scalar → KeptItem → Type 0
IsScalarKept s (Plain manner leaf) = InRange (scalar_form s) leaf × (manner.text ≡ is_string (elements.Scalar s))
IsScalarKept s (Msg listed child) = ⊥

-- the same of the element
abbrev pub IsElementKept : Shape → Element → KeptItem → Type 0
IsElementKept shape (elements.Scalar s) item = IsScalarKept s item
IsElementKept shape (elements.Enum e) item = IsScalarKept Int32 item
IsElementKept shape (elements.Message t) (Plain manner leaf) = ⊥
IsElementKept shape (elements.Message t) (Msg listed child) = Fits shape child × (type_of child ≡ t)

-- the item is one of the field: in a list just where the field is repeated, and a leaf of its element, kept as a string just where that
-- is string, or a message of its type that fits
abbrev pub HoldsItem : Shape → FieldShape → KeptItem → Type 0
HoldsItem shape f (Plain manner leaf) = (is_repeated f.presence ≡ manner.listed) × (manner.text ≡ is_string f.element) × LeafFits f leaf
HoldsItem shape f (Msg listed child) = (is_repeated f.presence ≡ listed) × Fits shape child × (f.element ≡ elements.Message (type_of child))

-- the part fits the field of its number
pub record HoldsPart (shape : Shape) (type : TypeId) (p : Part KeptItem) : Type 0 where
  pub field : FieldShape
  pub found : field_at (fields shape type) p.number ≡ Some field
  pub key : KeyFits field.presence p.key
  pub item : HoldsItem shape field p.item

-- a part of the field
pub record IsPartOf (shape : Shape) (f : FieldShape) (p : Part KeptItem) : Type 0 where
  pub number_is : p.number ≡ f.number
  pub key_fits : KeyFits f.presence p.key
  pub item : HoldsItem shape f p.item

-- a singular field has at most one part, a map's keys rise
abbrev pub InOrder : Presence → List (Part KeptItem) → Type 0
InOrder presence [] = ⊤
InOrder presence (p ∷ ps) = AllByRecursion (λ (q : Part KeptItem). MayFollow presence p.key q.key) ps × InOrder presence ps

-- the parts are such as the field holds together
pub record FieldHolds (shape : Shape) (f : FieldShape) (ps : List (Part KeptItem)) : Type 0 where
  pub each : AllByRecursion (IsPartOf shape f) ps
  pub in_order : InOrder f.presence ps
