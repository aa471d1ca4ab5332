-- The entries of maps, as their records are read (Encoding guide, "Maps").
use Rattle.std.specs.Prelude.{◌≡◌, ⊤, false, List, [], ◌∷◌, filter, Option, Some, None}
use Rattle.pg_schema.specs.declared.parts.field.Scalar.{Scalar}
use Rattle.pg_schema.specs.declared.parts.field.Element.{Element}
use Rattle.pg_schema.specs.declared.parts.field.Element.TheVariants as elements
use Rattle.pg_schema.specs.Shape.{Shape, FieldShape}
use Rattle.pg_wire.specs.Records.{WireRecord}
use Rattle.pg_dyn.specs.declared.message_ref.ValueRef.{ValueRef}
use Rattle.pg_dyn.specs.message.Message.{Leaf}
use Rattle.pg_dyn.specs.word.Coding.{form, zero_leaf}
use Rattle.pg_dyn.specs.reading.Content.{takes, plain_content}
use Rattle.pg_dyn.specs.message_ref.BorrowedItems.{ItemKept}
use Rattle.pg_dyn.specs.reading.Decoding.{read_item, dec}
use Rattle.pg_dyn.specs.message_ref.Borrowed.{item_seen}
use Rattle.pg_dyn.specs.reading.Steps.{item_of}

abbrev pub IsMessageOf : Element → Type 0
IsMessageOf (elements.Scalar s) = ⊥
IsMessageOf (elements.Enum e) = ⊥
IsMessageOf (elements.Message t) = ⊤

-- the item is that of what is in the bytes
abbrev pub IsReadFrom : Shape → Element → Leaf → ValueRef → Type 0
IsReadFrom shape element leaf value = read_item (dec shape) element leaf ≡ Some (item_of (item_seen false value))

-- what is read so far of a part of an entry, if anything is
abbrev pub PartIs : Shape → Element → Option (List Leaf) → Option ValueRef → Type 0
PartIs shape element leaves None = leaves ≡ Some []
PartIs shape element leaves (Some value) = (leaf : Leaf) × (leaves ≡ Some (leaf ∷ [])) × IsReadFrom shape element leaf value

abbrev pub PartFits : Shape → Element → Option ValueRef → Type 0
PartFits shape element None = ⊤
PartFits shape element (Some value) = ItemKept shape element value

abbrev pub PartRead : Shape → FieldShape → List WireRecord → Option ValueRef → Type 0
PartRead shape f rs held = PartIs shape f.element (plain_content f (filter (takes f) rs)) held

-- the part of a whole entry: the one that was read, or the default
abbrev pub WholeItem : Shape → Element → Option ValueRef → ValueRef → Type 0
WholeItem shape element (Some value) whole = value ≡ whole
WholeItem shape element None whole = IsReadFrom shape element (zero_leaf (form element)) whole
