-- The message that a choice is reached by.
use Rattle.std.specs.Prelude.{ℕ, nat_eq, pos, [], ◌∷◌, Bool, true, false, if◌then◌else◌, Option, Some, None, option_map}
use Rattle.pg_schema.specs.declared.parts.field.Scalar.{Scalar}
use Rattle.pg_schema.specs.declared.parts.field.Scalar.TheVariants.{Int32}
use Rattle.pg_schema.specs.declared.parts.field.Element.{Element}
use Rattle.pg_schema.specs.declared.parts.field.Element.TheVariants as elements
use Rattle.pg_schema.specs.declared.parts.field.Presence.{Presence}
use Rattle.pg_schema.specs.declared.parts.field.Presence.TheVariants as presences
use Rattle.pg_schema.specs.Shape.{Shape, FieldShape, fields, field_at}
use Rattle.pg_dyn.specs.message.Message.{Leaf, Int, F32, F64, Bytes, Item, Plain, Msg, Message, ends, holds, nests, with_part}
use Rattle.pg_dyn.specs.word.Coding.{Form, Integer, Single, Double, Text, Raw, form, zero_leaf}
use Rattle.pg_pairs.specs.declared.choices.case.Case.{Case}
use Rattle.pg_pairs.specs.declared.choices.case.Case.TheVariants as cases
use Rattle.pg_pairs.specs.declared.choices.choice.Choice.{Choice}
use Rattle.pg_pairs.specs.declared.choices.choice.Pair.{Pair}
use Rattle.pg_pairs.specs.views.EnumView.{EnumView}
use Rattle.pg_pairs.specs.gaps.Likeness.{like}
use Rattle.pg_pairs.specs.gaps.Gaps.{gap_item}
use Rattle.pg_pairs.specs.choices.Choices.{is_oneof, child_pair, zero_counts}

-- Items with the least bodies: zero; one that isn't zero; and one that isn't an integer's default.

abbrev pub nonzero_leaf : Form → Leaf
nonzero_leaf (Integer w) = Int (pos 1)
nonzero_leaf Single = F32 1
nonzero_leaf Double = F64 1
nonzero_leaf Text = Bytes (97 ∷ [])
nonzero_leaf Raw = Bytes (97 ∷ [])

abbrev pub far_leaf : Form → Leaf
far_leaf (Integer w) = Int (pos 1)
far_leaf f = zero_leaf f

-- an item of an element by its form's leaf; of messages it is the empty one
abbrev pub item_by : (Form → Leaf) → Element → Item
item_by leaf (elements.Message t) = Msg (ends [])
item_by leaf e = Plain (leaf (form e))

-- a key or a value beside the new one: zero where they are like, else what isn't an integer's default
abbrev pub apart_leaf : Element → Element → Leaf
apart_leaf e d = if like e d then zero_leaf (form e) else far_leaf (form e)

abbrev pub apart_item : Element → Element → Item
apart_item e d = if like e d then item_by zero_leaf e else item_by far_leaf e

-- an implicit field's least item isn't zero; the empty message has no bytes
abbrev pub least_leaf : Presence → Element → Leaf
least_leaf presences.Implicit e = nonzero_leaf (form e)
least_leaf p e = zero_leaf (form e)

abbrev pub least_key : Presence → Option Leaf
least_key (presences.Map k) = Some (zero_leaf (form (elements.Scalar k)))
least_key p = None

-- A field's least part, before others.
abbrev pub least_part_of : ℕ → Presence → Element → Message → Message
least_part_of number p (elements.Message t) later = nests number (least_key p) (ends []) later
least_part_of number p e later = holds number (least_key p) (least_leaf p e) later

abbrev pub least_part : FieldShape → Message → Message
least_part f later = least_part_of f.number f.presence f.element later

-- a message of one part
abbrev pub alone : ℕ → Option Leaf → Item → Message
alone number key item = with_part number key item (ends [])

-- the least content of unlike fields; where zero doesn't count an item that isn't zero
abbrev pub unlike_message : FieldShape → FieldShape → Message
unlike_message f g =
    if zero_counts f g then least_part f (ends [])
    else alone f.number (least_key f.presence) (item_by nonzero_leaf f.element)

-- a message of the item, where there is one
abbrev pub item_alone : ℕ → Option Leaf → Option Item → Message
item_alone number key (Some item) = alone number key item
item_alone number key None = ends []

-- a list that the new field doesn't keep: two zeros beside an explicit field, of which one is read, else one
abbrev pub lost_onto : ℕ → Presence → Presence → Item → Message
lost_onto number (presences.Repeated false) presences.Explicit zero =
    with_part number None zero (alone number None zero)
lost_onto number p q zero = alone number None zero

abbrev pub key_of : Presence → Scalar
key_of (presences.Map key) = key
key_of p = Int32

-- an entry whose key has a gap
abbrev pub key_alone : ℕ → Element → Option Leaf → Message
key_alone number e (Some key) = alone number (Some key) (item_by zero_leaf e)
key_alone number e None = ends []

-- the value of an entry that breaks: the child, else the item of the gap
abbrev pub broken_value : Option Message → Option Leaf → Option Item
broken_value (Some child) leaf = Some (Msg child)
broken_value None leaf = option_map Plain leaf

abbrev pub entry_message : EnumView → ℕ → Scalar → Scalar → Element → Element → ℕ → Option Message → Message
entry_message enum_view number k l e d part child =
    if nat_eq part 1 then key_alone number e (gap_item enum_view true (elements.Scalar k) (elements.Scalar l))
    else if nat_eq part 2
    then item_alone number (Some (zero_leaf (form (elements.Scalar k))))
    (broken_value child (gap_item enum_view true e d))
    else alone number (Some (apart_leaf (elements.Scalar k) (elements.Scalar l))) (apart_item e d)

-- the message of a field's choice, of that case and part, round that child
abbrev pub carried_field : EnumView → FieldShape → FieldShape → Case → ℕ → Option Message → Message
carried_field enum_view f g cases.Unlike part child = unlike_message f g
carried_field enum_view f g cases.Gap part child =
    item_alone f.number None (option_map Plain (gap_item enum_view (zero_counts f g) f.element g.element))
carried_field enum_view f g cases.Child part child = item_alone f.number None (option_map Msg child)
carried_field enum_view f g cases.List part child =
    lost_onto f.number f.presence g.presence (item_by zero_leaf f.element)
carried_field enum_view f g cases.Map part child =
    entry_message enum_view f.number (key_of f.presence) (key_of g.presence) f.element g.element part child
carried_field enum_view f g cases.Oneof part child = ends []

-- two fields that meet: the least contents of both
abbrev pub carried_two : FieldShape → Option FieldShape → Message
carried_two f (Some e) = least_part f (least_part e (ends []))
carried_two f None = ends []

abbrev pub carried_of : EnumView → (first beside second : Option FieldShape) → Choice → Option Message → Message
carried_of enum_view (Some f) (Some g) e c child =
    if is_oneof c.case then carried_two f e else carried_field enum_view f g c.case c.part child
carried_of enum_view f g e c child = ends []

-- the message of a choice
abbrev pub carried : EnumView → Shape → Shape → Pair → Choice → Option Message → Message
carried enum_view old new pair c child =
    carried_of enum_view (field_at (fields old pair.old) c.number) (field_at (fields new pair.new) c.number)
    (field_at (fields old pair.old) c.part) c child

-- Which choices have a child, and of which pair.

-- an item that is a child, and the value of an entry
abbrev pub has_child : Case → ℕ → Bool
has_child cases.Child part = true
has_child cases.Map part = nat_eq part 2
has_child case part = false

abbrev pub field_child : FieldShape → FieldShape → Case → ℕ → Option Pair
field_child f g case part = if has_child case part then child_pair f.element g.element else None

abbrev pub child_of : Option FieldShape → Option FieldShape → Choice → Option Pair
child_of (Some f) (Some g) c = field_child f g c.case c.part
child_of f g c = None

abbrev pub choice_child : Shape → Shape → Pair → Choice → Option Pair
choice_child old new pair c =
    child_of (field_at (fields old pair.old) c.number) (field_at (fields new pair.new) c.number) c
