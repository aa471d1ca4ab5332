-- How an encoding grows by a part that is put after the others.
use Rattle.std.specs.Prelude.{◌≡◌, ℕ, ◌<◌, ◌⊎◌, List, [], ◌∷◌, ◌++◌, false, Some, None}
use Rattle.std.specs.List.{AllByRecursion}
use Rattle.pg_schema.specs.declared.parts.field.TypeId.{TypeId}
use Rattle.pg_schema.specs.declared.parts.field.Element.{Element}
use Rattle.pg_schema.specs.declared.parts.field.Element.TheVariants as elements
use Rattle.pg_schema.specs.declared.parts.field.Presence.TheVariants as presences
use Rattle.pg_schema.specs.Shape.{Shape, FieldShape, fields, field_at}
use Rattle.pg_schema.specs.ShapeRules.{IsShape}
use Rattle.pg_dyn.specs.message.Message.{Leaf, Bytes, Item, Plain, Msg, Part, message_from}
use Rattle.pg_dyn.specs.fitting.Belonging.{IsMessage, LeafFits}
use Rattle.pg_dyn.specs.encoding.Writing.{item_record}
use Rattle.pg_dyn.specs.encoding.Encoding.{element_type, enc}

-- the leaf in the place of an item: its own, or the bytes of its message
abbrev pub leaf_for : Shape → Element → Item → Leaf
leaf_for shape e (Plain leaf) = leaf
leaf_for shape e (Msg m) = Bytes (enc shape (element_type e) m)

-- the item is one of the field
abbrev pub IsOfField : Shape → FieldShape → Item → Type 0
IsOfField shape f (Plain leaf) = LeafFits f leaf
IsOfField shape f (Msg m) = (of : TypeId) × (f.element ≡ elements.Message of) × IsMessage shape of m

-- the item as a part of a field that is no map
abbrev pub keyless : ℕ → Item → Part Item
keyless number item = record { number = number; key = None; item = item }

-- A part of the field may come after these: they have smaller numbers, or the field is a list and they are its items.
abbrev pub ComesLast : FieldShape → List (Part Item) → Type 0
ComesLast f ps =
    AllByRecursion (λ (p : Part Item). (p.number < f.number) ⊎ ((p.number ≡ f.number) × (f.presence ≡ presences.Repeated false))) ps

-- A part that is put after the others adds its record: of a field with presence or of a list that isn't packed, in no oneof.
abbrev pub EncodingGrows : Type 0
EncodingGrows =
    (shape : Shape) (type : TypeId) (f : FieldShape) (ps : List (Part Item)) (item : Item) → IsShape shape →
    field_at (fields shape type) f.number ≡ Some f → f.oneof ≡ None →
    (f.presence ≡ presences.Explicit) ⊎ (f.presence ≡ presences.Repeated false) → ComesLast f ps →
    IsMessage shape type (message_from ps []) → IsOfField shape f item →
    IsMessage shape type (message_from (ps ++ keyless f.number item ∷ []) [])
    × (enc shape type (message_from (ps ++ keyless f.number item ∷ []) [])
    ≡ enc shape type (message_from ps []) ++ (item_record f.number f.element (leaf_for shape f.element item)).bytes)
