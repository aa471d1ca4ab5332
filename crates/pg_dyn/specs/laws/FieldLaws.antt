-- Laws of a type's fields, of what is written and read of them, and of the contents that a message holds; their choice is this
-- profile's.
use Rattle.std.specs.Prelude.{◌≡◌, ◌↔◌, ⊤, ℕ, List, [], ◌∷◌, length, map, filter, true, false, Some}
use Rattle.std.specs.List.{AllByRecursion}
use Rattle.std.specs.declared.cmp.Ordering.TheVariants.{Less}
use Rattle.pg_schema.specs.declared.parts.field.TypeId.{TypeId}
use Rattle.pg_schema.specs.declared.parts.field.Scalar.{Scalar}
use Rattle.pg_schema.specs.declared.parts.field.Element.{Element}
use Rattle.pg_schema.specs.declared.parts.field.Element.TheVariants as elements
use Rattle.pg_schema.specs.declared.parts.field.Presence.{Presence}
use Rattle.pg_schema.specs.Shape.{Shape, FieldShape, fields, field_at, is_packable}
use Rattle.pg_schema.specs.ShapeRules.{IsShape, IsType, Rising}
use Rattle.pg_wire.specs.declared.record.WireType.TheVariants.{Len}
use Rattle.pg_wire.specs.Records.{WireRecord}
use Rattle.pg_dyn.specs.declared.message.Content.{Content}
use Rattle.pg_dyn.specs.declared.message.Value.{Value}
use Rattle.pg_dyn.specs.message.Message.{Item, Leaf, Message, Part, is_of, key_cmp, leaf_eq}
use Rattle.pg_dyn.specs.message.Message as model
use Rattle.pg_dyn.specs.laws.Bodies.{IsNestedLeaf}
use Rattle.pg_dyn.specs.word.Coding.{form, form_wire}
use Rattle.pg_dyn.specs.reading.Content.{by_key, content, last_item, same_wire, takes}
use Rattle.pg_dyn.specs.encoding.Writing.{field_records, records_in}
use Rattle.pg_dyn.specs.encoding.Encoding.{child_type}
use Rattle.pg_dyn.specs.fitting.Belonging.{MayBeZero}
use Rattle.pg_dyn.specs.views.Comparison.{Expected, View, same_content}
use Rattle.pg_dyn.specs.laws.Laws.{of_number}
use Rattle.pg_dyn.specs.message.Kept.{Kept, message_of, type_of}
use Rattle.pg_dyn.specs.message.KeptParts.{KeptItem}
use Rattle.pg_dyn.specs.message.KeptParts as kept_parts
use Rattle.pg_dyn.specs.message.Seen.{IsKey, content_seen}
use Rattle.pg_dyn.specs.fitting.Texts.{kept_in}
use Rattle.pg_dyn.specs.fitting.ScalarItems.{IsItemOf}
use Rattle.pg_dyn.specs.message.Replacing.{kept_onto, with_parts, without_siblings}
use Rattle.pg_dyn.specs.setting.ContentFaults.{ContentFault, HasNoFault, IsContentOf}

-- The fields of each type of a sound shape are sound; the field that is found by a number has it; each field of a type is found by
-- its number; the type of a message field is that of its children.
abbrev pub FieldsAreFound : Type 0
FieldsAreFound =
    ((shape : Shape) (type : TypeId) → IsShape shape → IsType (length shape) (fields shape type))
    × ((fs : List FieldShape) (n : ℕ) (f : FieldShape) → field_at fs n ≡ Some f → f.number ≡ n)
    × ((fs : List FieldShape) → Rising fs → AllByRecursion (λ f. field_at fs f.number ≡ Some f) fs)
    × ((fs : List FieldShape) (n : ℕ) (f : FieldShape) (t : TypeId) → field_at fs n ≡ Some f → f.element ≡ elements.Message t → child_type fs n ≡ t)

-- The records that are written of a field have its number, and there are none without content; a field takes records of its own
-- number.
abbrev pub RecordsOfFields : Type 0
RecordsOfFields =
    ((f : FieldShape) (ps : List (Part Leaf)) → AllByRecursion (λ (r : WireRecord). r.number ≡ f.number) (field_records f ps))
    × ((f : FieldShape) → field_records f [] ≡ [])
    × ((f : FieldShape) (r : WireRecord) → takes f r ≡ true → of_number f.number r ≡ true)

-- Of no parts there are no records, and of no records there is no content. Whether two contents of a field are the same depends on
-- the field's own parts alone.
abbrev pub OwnContents : Type 0
OwnContents =
    ((fs : List FieldShape) → records_in fs [] ≡ [])
    × ((f : FieldShape) → content f [] ≡ Some [])
    × ((view : View) (f g : FieldShape) (old : List (Part Expected)) (new : List (Part Item)) →
    same_content view f g (filter (is_of f.number) old) (filter (is_of f.number) new) ≡ same_content view f g old new)

-- A singular field keeps the one item that it may hold, and of none none.
abbrev pub LastItems : Type 0
LastItems =
    ((p : Presence) (e : Element) → last_item p e [] ≡ [])
    × ((p : Presence) (e : Element) (leaf : Leaf) → MayBeZero p leaf → IsNestedLeaf e leaf → last_item p e (leaf ∷ []) ≡ leaf ∷ [])

-- What can be packed isn't of the wire type LEN.
abbrev pub PackableWires : Type 0
PackableWires = (e : Element) → is_packable e ≡ true → same_wire Len (form_wire (form e)) ≡ false

-- each entry's key is below those of all later ones
abbrev pub EntriesRise : List (Leaf × Leaf) → Type 0
EntriesRise [] = ⊤
EntriesRise (e ∷ es) = AllByRecursion (λ (x : Leaf × Leaf). key_cmp e.0 x.0 ≡ Less) es × EntriesRise es

-- Entries whose keys rise are kept as they are.
abbrev pub RisingEntriesStay : Type 0
RisingEntriesStay = (es : List (Leaf × Leaf)) → EntriesRise es → by_key es ≡ es

-- Parts in front of a message, and parts put into one or taken out of it, leave its type.
abbrev pub PartsKeepTypes : Type 0
PartsKeepTypes =
    ((ps : List (Part KeptItem)) (later : Kept) → type_of (kept_onto ps later) ≡ type_of later)
    × ((n : ℕ) (ps : List (Part KeptItem)) (m : Kept) → type_of (with_parts n ps m) ≡ type_of m)
    × ((fs : List FieldShape) (f : FieldShape) (m : Kept) → type_of (without_siblings fs f m) ≡ type_of m)

-- The parts of a content have the number of its field, an item of a scalar is no message, and parts mean the same in front of a
-- message where they are kept as an element's.
abbrev pub ContentsAreSeen : Type 0
ContentsAreSeen =
    ((n : ℕ) (c : Content) → AllByRecursion (λ (p : Part KeptItem). p.number ≡ n) (content_seen n c))
    × ((s : Scalar) (v : Value) → IsItemOf s v → IsKey v)
    × ((e : Element) (ps : List (Part KeptItem)) (later : Kept) → message_of (kept_onto (map (kept_in e) ps) later) ≡ message_of (kept_onto ps later))

-- What is kept holds no unknown records just where the message that it means holds none.
abbrev pub PlainIsKept : Type 0
PlainIsKept = (m : Kept) → kept_parts.IsPlain m ↔ model.IsPlain (message_of m)

-- What is kept has the unknown records of the message that it means; a plain message has none.
abbrev pub UnknownIsKept : Type 0
UnknownIsKept =
    ((m : Kept) → model.unknown_of (message_of m) ≡ kept_parts.unknown_of m) × ((v : Message) → model.IsPlain v → model.unknown_of v ≡ [])

-- A content of a field has none of the faults for which contents are refused.
abbrev pub ContentsHaveNoFault : Type 0
ContentsHaveNoFault =
    (shape : Shape) (type : TypeId) (number : ℕ) (c : Content) →
    IsContentOf shape type number c → HasNoFault (ContentFault shape type number c)

-- Items are equal just where the test says so.
abbrev pub EqualLeaves : Type 0
EqualLeaves = (a b : Leaf) → (leaf_eq a b ≡ true) ↔ (a ≡ b)
