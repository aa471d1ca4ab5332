-- The messages of a type (proto3 language guide, "Field Presence", "Oneof", "Maps"; enums are open: any number of 32 bits).
use Rattle.std.specs.Prelude.{◌≡◌, ℕ, ◌<◌, ◌⊎◌, ⊤, true, false, List, Option, Some, None}
use Rattle.std.specs.List.{AllByRecursion}
use Rattle.std.specs.declared.cmp.Ordering.TheVariants.{Less}
use Rattle.pg_schema.specs.declared.parts.field.TypeId.{TypeId}
use Rattle.pg_schema.specs.declared.parts.field.Element.{Element}
use Rattle.pg_schema.specs.declared.parts.field.Element.TheVariants as elements
use Rattle.pg_schema.specs.declared.parts.field.Presence.{Presence}
use Rattle.pg_schema.specs.declared.parts.field.Presence.TheVariants as presences
use Rattle.pg_schema.specs.Shape.{Shape, FieldShape, fields, field_at}
use Rattle.pg_wire.specs.Records.{WireRecord, IsRecord}
use Rattle.pg_dyn.specs.message.Message.{Leaf, Message, ends, holds, nests, Place, places, is_zero, key_cmp}
use Rattle.pg_dyn.specs.word.Coding.{form, InRange}
use Rattle.pg_dyn.specs.reading.Content.{is_unknown, is_sibling}

-- there is a key just in the entries of a map, and it is in the range of its type
abbrev pub KeyFits : Presence → Option Leaf → Type 0
KeyFits (presences.Map key) (Some k) = InRange (form (elements.Scalar key)) k
KeyFits (presences.Map key) None = ⊥
KeyFits presences.Implicit key = key ≡ None
KeyFits presences.Explicit key = key ≡ None
KeyFits (presences.Repeated packed) key = key ≡ None

-- whether a part with the key k may be followed by one of the same field with the key l
abbrev pub MayFollow : Presence → Option Leaf → Option Leaf → Type 0
MayFollow (presences.Repeated packed) k l = ⊤
MayFollow (presences.Map key) (Some k) (Some l) = key_cmp k l ≡ Less
MayFollow (presences.Map key) (Some k) None = ⊥
MayFollow (presences.Map key) None l = ⊥
MayFollow presences.Implicit k l = ⊥
MayFollow presences.Explicit k l = ⊥

-- The later parts are of greater numbers; those of the same field follow where it is repeated, or with greater keys.
abbrev pub ComesBefore : FieldShape → Option Leaf → List Place → Type 0
ComesBefore f key later = AllByRecursion (λ p. (f.number < p.number) ⊎ ((f.number ≡ p.number) × MayFollow f.presence key p.key)) later

-- none of the later parts is of another member of the field's oneof
abbrev pub IsAlone : List FieldShape → FieldShape → List Place → Type 0
IsAlone fs f later = AllByRecursion (λ p. (g : FieldShape) → field_at fs p.number ≡ Some g → is_sibling f g ≡ false) later

-- a part of a field of this type, before those later parts
pub record IsPart (fs : List FieldShape) (number : ℕ) (key : Option Leaf) (later : List Place) : Type 0 where
  pub field : FieldShape
  pub found : field_at fs number ≡ Some field
  pub key_fits : KeyFits field.presence key
  pub before : ComesBefore field key later
  pub alone : IsAlone fs field later

-- an implicit field doesn't hold its zero item
abbrev pub MayBeZero : Presence → Leaf → Type 0
MayBeZero presences.Implicit leaf = is_zero leaf ≡ false
MayBeZero presences.Explicit leaf = ⊤
MayBeZero (presences.Repeated packed) leaf = ⊤
MayBeZero (presences.Map key) leaf = ⊤

abbrev pub LeafFits : FieldShape → Leaf → Type 0
LeafFits f leaf = of f.element
  where
    of : Element → Type 0
    of (elements.Message t) = ⊥
    of (elements.Scalar s) = InRange (form (elements.Scalar s)) leaf × MayBeZero f.presence leaf
    of (elements.Enum e) = InRange (form (elements.Enum e)) leaf × MayBeZero f.presence leaf

-- an unknown record: one that no field of the type accepts
pub record IsUnknown (fs : List FieldShape) (r : WireRecord) : Type 0 where
  pub is_record : IsRecord r
  pub not_accepted : is_unknown fs r ≡ true

-- The message is one of this type: its parts are those of fields of the type, in order, with items in range and at most one member of
-- each oneof; its children are messages of their types; no unknown record is one that the type accepts.
abbrev pub IsMessage : Shape → TypeId → Message → Type 0
IsMessage shape type (ends unknown) = AllByRecursion (IsUnknown (fields shape type)) unknown
IsMessage shape type (holds number key leaf later) =
    (part : IsPart (fields shape type) number key (places later)) × LeafFits part.field leaf × IsMessage shape type later
IsMessage shape type (nests number key child later) =
    (part : IsPart (fields shape type) number key (places later)) × (of : TypeId) × (part.field.element ≡ elements.Message of) × IsMessage shape of child
    × IsMessage shape type later
