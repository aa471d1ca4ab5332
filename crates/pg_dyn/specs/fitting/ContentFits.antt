-- Contents that fit their fields, one by one (proto3 language guide, "Field Presence", "Oneof", "Maps").
use Rattle.std.specs.Prelude.{◌≡◌, ℕ, ◌<◌, ⊤, Bool, false, List, [], ◌∷◌, length, Option, Some, None}
use Rattle.std.specs.List.{AllByRecursion}
use Rattle.pg_schema.specs.declared.parts.field.TypeId.{TypeId}
use Rattle.pg_schema.specs.declared.parts.field.Scalar.{Scalar}
use Rattle.pg_schema.specs.declared.parts.field.Scalar.TheVariants.{Int32}
use Rattle.pg_schema.specs.declared.parts.field.Element.{Element}
use Rattle.pg_schema.specs.declared.parts.field.Element.TheVariants as elements
use Rattle.pg_schema.specs.declared.parts.field.Presence.{Presence}
use Rattle.pg_schema.specs.declared.parts.field.Presence.TheVariants as presences
use Rattle.pg_schema.specs.Shape.{Shape, FieldShape, fields, field_at}
use Rattle.pg_wire.specs.Records.{WireRecord}
use Rattle.pg_dyn.specs.declared.message.Content.{Content}
use Rattle.pg_dyn.specs.declared.message.Content.TheVariants as contents
use Rattle.pg_dyn.specs.declared.message.Value.{Value}
use Rattle.pg_dyn.specs.declared.message.Value.TheVariants as values
use Rattle.pg_dyn.specs.message.KeyOrder.{Rise}
use Rattle.pg_dyn.specs.message.Message.{is_zero}
use Rattle.pg_dyn.specs.message.Kept.{type_of}
use Rattle.pg_dyn.specs.message.Seen.{is_text, leaf_of}
use Rattle.pg_dyn.specs.reading.Content.{is_sibling}
use Rattle.pg_dyn.specs.fitting.Belonging.{IsUnknown}
use Rattle.pg_dyn.specs.fitting.Fits.{Fits, is_string}
use Rattle.pg_dyn.specs.fitting.ScalarItems.{IsItemOf}

-- a message is never zero
abbrev pub is_zero_value : Value → Bool
is_zero_value (values.Msg child) = false
is_zero_value value = is_zero (leaf_of value)

-- the item is one of the element; an enum takes the numbers of int32
abbrev pub ItemFits : Shape → Element → Value → Type 0
ItemFits shape (elements.Scalar s) value = IsItemOf s value
ItemFits shape (elements.Enum e) value = IsItemOf Int32 value
ItemFits shape (elements.Message t) (values.Msg child) = Fits shape child.value × (type_of child.value ≡ t)
ItemFits shape (elements.Message t) value = ⊥

-- an entry of a map
abbrev pub EntryFits : Shape → Scalar → Element → Value × Value → Type 0
EntryFits shape key element e = IsItemOf key e.0 × ItemFits shape element e.1

-- the content has the shape of the presence, and each item is one of its element
abbrev pub ItemsFit : Shape → Presence → Element → Content → Type 0
ItemsFit shape presences.Implicit element (contents.One value) = ItemFits shape element value
ItemsFit shape presences.Explicit element (contents.One value) = ItemFits shape element value
ItemsFit shape (presences.Repeated packed) element (contents.Many vs) = AllByRecursion (ItemFits shape element) vs.items
ItemsFit shape (presences.Map key) element (contents.Map es) = AllByRecursion (EntryFits shape key element) es.items
ItemsFit shape presence element content = ⊥

-- the item is one of the element, as a field of the element holds it: `Text` just where the element is string
abbrev pub ItemKept : Shape → Element → Value → Type 0
ItemKept shape e value = ItemFits shape e value × (is_text value ≡ is_string e)

abbrev pub EntryKept : Shape → Scalar → Element → Value × Value → Type 0
EntryKept shape key e x = IsItemOf key x.0 × ItemKept shape e x.1

-- each key is below all later ones
abbrev pub KeysRise : List (Value × Value) → Type 0
KeysRise es = Rise (λ (e : Value × Value). leaf_of e.0) es

-- the content has the shape of the presence, each item is one of the element, as its field holds it, and an implicit field holds no zero
abbrev pub ContentFits : Shape → Presence → Element → Content → Type 0
ContentFits shape presences.Implicit e (contents.One v) = ItemKept shape e v × (is_zero_value v ≡ false)
ContentFits shape presences.Explicit e (contents.One v) = ItemKept shape e v
ContentFits shape (presences.Repeated packed) e (contents.Many vs) = AllByRecursion (ItemKept shape e) vs.items
ContentFits shape (presences.Map key) e (contents.Map es) =
    AllByRecursion (EntryKept shape key e) es.items × KeysRise es.items
ContentFits shape p e c = ⊥

-- the content fits the field of its number
pub record HoldsContent (shape : Shape) (type : TypeId) (c : ℕ × Content) : Type 0 where
  pub field : FieldShape
  pub found : field_at (fields shape type) c.0 ≡ Some field
  pub fits : ContentFits shape field.presence field.element c.1

-- whether two fields, where there are both, are members of one oneof
abbrev pub are_siblings_by : Option FieldShape → Option FieldShape → Bool
are_siblings_by (Some f) (Some g) = is_sibling f g
are_siblings_by (Some f) None = false
are_siblings_by None g = false

-- the two contents aren't members of one oneof
abbrev pub AreApart : List FieldShape → ℕ → ℕ → Type 0
AreApart fs a b = (f g : FieldShape) → field_at fs a ≡ Some f → field_at fs b ≡ Some g → is_sibling f g ≡ false

abbrev pub NoneSiblings : {A : Type 0} → List FieldShape → List (ℕ × A) → Type 0
NoneSiblings fs [] = ⊤
NoneSiblings {A} fs (m ∷ ms) = AllByRecursion (λ (l : ℕ × A). AreApart fs m.0 l.0) ms × NoneSiblings fs ms

-- a message of the type with these contents and unknown records fits
pub record FitsByContents (shape : Shape) (type : TypeId) (ms : List (ℕ × Content)) (us : List WireRecord) : Type 0 where
  pub type_is_there : type.index < length shape
  pub each : AllByRecursion (HoldsContent shape type) ms
  pub apart : NoneSiblings (fields shape type) ms
  pub unknown : AllByRecursion (IsUnknown (fields shape type)) us
