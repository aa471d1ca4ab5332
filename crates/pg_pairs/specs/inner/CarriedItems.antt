-- Contents of carried messages as the program holds them.
use Rattle.std.specs.Prelude.{◌≡◌, ℕ, ⊤, [], ◌∷◌, List, true, false, if◌then◌else◌, Option, Some, None}
use Rattle.pg_schema.specs.declared.parts.field.Element.{Element}
use Rattle.pg_schema.specs.declared.parts.field.Element.TheVariants as elements
use Rattle.pg_schema.specs.declared.parts.field.Presence.{Presence}
use Rattle.pg_schema.specs.Shape.{FieldShape, Shape, is_map}
use Rattle.pg_dyn.specs.declared.message.Content.{Content}
use Rattle.pg_dyn.specs.declared.message.Content.TheVariants as contents
use Rattle.pg_dyn.specs.declared.message.Value.{Value}
use Rattle.pg_dyn.specs.declared.message.Value.TheVariants as values
use Rattle.pg_dyn.specs.setting.ContentFaults.{HasKeyTwice}
use Rattle.pg_dyn.specs.setting.Setting.{IsSetTo}
use Rattle.pg_dyn.specs.fitting.ContentFits.{ItemsFit}
use Rattle.pg_dyn.specs.message.Message.{Leaf, Item, Plain, Msg, Message, ends, with_part}
use Rattle.pg_dyn.specs.word.Coding.{Form, zero_leaf}
use Rattle.pg_dyn.specs.fitting.Fits.{Fits}
use Rattle.pg_dyn.specs.message.Kept.{Kept, message_of, type_of}
use Rattle.pg_dyn.specs.message.Seen.{leaf_of}
use Rattle.pg_pairs.specs.declared.choices.case.Case.{Case}
use Rattle.pg_pairs.specs.declared.choices.case.Case.TheVariants as cases
use Rattle.pg_pairs.specs.declared.witness.item.Small.{Small}
use Rattle.pg_pairs.specs.declared.witness.item.Small.TheVariants.{Zero, NotZero, Far}
use Rattle.pg_pairs.specs.gaps.Likeness.{like}
use Rattle.pg_pairs.specs.witness.Carried.{nonzero_leaf, far_leaf, least_part}

abbrev pub leaf_by : Small → Form → Leaf
leaf_by Zero f = zero_leaf f
leaf_by NotZero f = nonzero_leaf f
leaf_by Far f = far_leaf f

-- a value as an item of a message
abbrev pub value_item : Value → Item
value_item (values.Msg child) = Msg (message_of child.value)
value_item value = Plain (leaf_of value)

-- The parts of a content, before others.

abbrev pub items_before : ℕ → List Value → Message → Message
items_before number [] later = later
items_before number (value ∷ vs) later = with_part number None (value_item value) (items_before number vs later)

abbrev pub entries_before : ℕ → List (Value × Value) → Message → Message
entries_before number [] later = later
entries_before number (e ∷ es) later =
    with_part number (Some (leaf_of e.0)) (value_item e.1) (entries_before number es later)

abbrev pub content_before : ℕ → Content → Message → Message
content_before number (contents.One value) later = with_part number None (value_item value) later
content_before number (contents.Many vs) later = items_before number vs.items later
content_before number (contents.Map es) later = entries_before number es.items later

-- the content puts so much before the later parts of a message
abbrev pub Puts : ℕ → Content → (Message → Message) → Type 0
Puts number content before = (later : Message) → content_before number content later ≡ before later

-- the new message is the old one with the field's least content set
abbrev pub LeastIsSet : Shape → FieldShape → Kept → Kept → Type 0
LeastIsSet shape f old new =
    (content : Content) × Puts f.number content (least_part f) × IsSetTo shape f.number content old new

-- a message of the content alone
abbrev pub content_alone : ℕ → Content → Message
content_alone number content = content_before number content (ends [])

-- zero for a key or a value beside a like one
abbrev pub apart_small : Element → Element → Small
apart_small e d = if like e d then Zero else Far

-- the content is one of a field of that presence and element
abbrev pub IsTakenBy : Shape → Presence → Element → Content → Type 0
IsTakenBy shape presence element content = ItemsFit shape presence element content × (HasKeyTwice content → ⊥)

-- a message of the content alone, where there is one
abbrev pub found_alone : ℕ → Option Content → Message
found_alone number (Some content) = content_alone number content
found_alone number None = ends []

-- the child is a message of the element's type
abbrev pub IsChildOf : Shape → Element → Kept → Type 0
IsChildOf shape element child = Fits shape child × (element ≡ elements.Message (type_of child))

-- A choice round an item is one of a field that is no map, and that of an entry is one of a map.
abbrev pub IsPlacedBy : Presence → Case → Type 0
IsPlacedBy p cases.Gap = is_map p ≡ false
IsPlacedBy p cases.Child = is_map p ≡ false
IsPlacedBy p cases.List = is_map p ≡ false
IsPlacedBy p cases.Map = is_map p ≡ true
IsPlacedBy p case = ⊤
