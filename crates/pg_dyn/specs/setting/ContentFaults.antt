-- What is wrong with contents that are handed to a message, and which of several faults is reported: that of the lowest code
-- (this profile's choice).
use Rattle.std.specs.Prelude.{◌≡◌, ℕ, ◌<◌, ◌⊎◌, ⊤, List, [], ◌∷◌, length, map, filter, flat_map, nat_eq, Bool, Some, None, option_and_then}
use Rattle.pg_schema.specs.declared.parts.field.TypeId.{TypeId}
use Rattle.pg_schema.specs.declared.parts.field.Scalar.TheVariants.{Int32}
use Rattle.pg_schema.specs.declared.parts.field.Element.{Element}
use Rattle.pg_schema.specs.declared.parts.field.Element.TheVariants as elements
use Rattle.pg_schema.specs.declared.parts.field.Presence.{Presence}
use Rattle.pg_schema.specs.declared.parts.field.Presence.TheVariants as presences
use Rattle.pg_schema.specs.Shape.{Shape, FieldShape, fields, field_at}
use Rattle.pg_dyn.specs.declared.error.DynError.{DynError}
use Rattle.pg_dyn.specs.declared.error.DynError.TheVariants as errors
use Rattle.pg_dyn.specs.declared.message.Content.{Content}
use Rattle.pg_dyn.specs.declared.message.Content.TheVariants as contents
use Rattle.pg_dyn.specs.declared.message.Value.{Value}
use Rattle.pg_dyn.specs.declared.message.Value.TheVariants as values
use Rattle.pg_dyn.specs.message.Message.{Leaf, leaf_eq}
use Rattle.pg_dyn.specs.error.Codes.{code_of}
use Rattle.pg_dyn.specs.reading.Content.{same_oneof}
use Rattle.pg_dyn.specs.message.Kept.{type_of}
use Rattle.pg_dyn.specs.message.Seen.{leaf_of}
use Rattle.pg_dyn.specs.fitting.ContentFits.{ItemsFit}
use Rattle.pg_dyn.specs.fitting.Fits.{Fits}
use Rattle.pg_dyn.specs.fitting.ScalarItems.{IsFaultOf}

-- the content has the shape that its field's presence asks: one item, a list, or entries
abbrev pub HasPresence : Presence → Content → Type 0
HasPresence presences.Implicit (contents.One value) = ⊤
HasPresence presences.Explicit (contents.One value) = ⊤
HasPresence (presences.Repeated packed) (contents.Many vs) = ⊤
HasPresence (presences.Map key) (contents.Map es) = ⊤
HasPresence presence content = ⊥

-- the items of a content, each with the element that it should be of
abbrev pub key_element : Presence → Element
key_element (presences.Map key) = elements.Scalar key
key_element presences.Implicit = elements.Scalar Int32
key_element presences.Explicit = elements.Scalar Int32
key_element (presences.Repeated packed) = elements.Scalar Int32

abbrev pub items_in : FieldShape → Content → List (Element × Value)
items_in f (contents.One value) = (f.element, value) ∷ []
items_in f (contents.Many vs) = map (λ value. (f.element, value)) vs.items
items_in f (contents.Map es) = flat_map (λ (e : Value × Value). (key_element f.presence, e.0) ∷ (f.element, e.1) ∷ []) es.items

-- what is no message of the type that fits
abbrev pub IsNotOf : Shape → TypeId → Value → Type 0
IsNotOf shape t (values.Msg child) = Fits shape child.value × (type_of child.value ≡ t) → ⊥
IsNotOf shape t value = ⊤

abbrev pub ChildFault : Shape → TypeId → Value → DynError → Type 0
ChildFault shape t value errors.WrongKind = IsNotOf shape t value
ChildFault shape t value e = ⊥

-- what is wrong with an item of an element; an enum takes the numbers of int32
abbrev pub ElementFault : Shape → Element → Value → DynError → Type 0
ElementFault shape (elements.Scalar s) value e = IsFaultOf s value e
ElementFault shape (elements.Enum enum) value e = IsFaultOf Int32 value e
ElementFault shape (elements.Message t) value e = ChildFault shape t value e

-- the former is wrong so, or nothing of that code is wrong with it and the latter is
abbrev pub FirstOfTwo : (DynError → Type 0) → (DynError → Type 0) → DynError → Type 0
FirstOfTwo F G e = F e ⊎ (((other : DynError) → code_of other ≡ code_of e → F other → ⊥) × G e)

-- so is the first element of a list with which anything of that code is wrong
abbrev pub FirstOf : {A : Type 0} → (A → DynError → Type 0) → List A → DynError → Type 0
FirstOf F [] e = ⊥
FirstOf F (x ∷ xs) e = FirstOfTwo (F x) (FirstOf F xs) e

abbrev pub AnyOf : {A : Type 0} → (A → Type 0) → List A → Type 0
AnyOf P [] = ⊥
AnyOf P (x ∷ xs) = P x ⊎ AnyOf P xs

abbrev pub HasItemFault : Shape → FieldShape → Content → DynError → Type 0
HasItemFault shape f content e = FirstOf (λ (x : Element × Value). ElementFault shape x.0 x.1) (items_in f content) e

-- two elements of the list pass the test
abbrev pub PassTwice : {A : Type 0} → (A → Bool) → List A → Type 0
PassTwice test xs = 1 < length (filter test xs)

-- two entries have one key
abbrev pub HasEntryTwice : List (Value × Value) → Type 0
HasEntryTwice es = (key : Leaf) × PassTwice (λ (e : Value × Value). leaf_eq (leaf_of e.0) key) es

abbrev pub HasKeyTwice : Content → Type 0
HasKeyTwice (contents.One value) = ⊥
HasKeyTwice (contents.Many vs) = ⊥
HasKeyTwice (contents.Map es) = HasEntryTwice es.items

-- the content of a field has what the error names
abbrev pub FieldFault : Shape → FieldShape → Content → DynError → Type 0
FieldFault shape f content errors.WrongKind = (HasPresence f.presence content → ⊥) ⊎ HasItemFault shape f content errors.WrongKind
FieldFault shape f content errors.OutOfRange = HasItemFault shape f content errors.OutOfRange
FieldFault shape f content (errors.NotUtf8 at) = HasItemFault shape f content (errors.NotUtf8 at)
FieldFault shape f content errors.DuplicateKey = HasKeyTwice content
FieldFault shape f content e = ⊥

-- the content under a number of the type has it
abbrev pub ContentFault : Shape → TypeId → ℕ → Content → DynError → Type 0
ContentFault shape type number content errors.NoSuchField = field_at (fields shape type) number ≡ None
ContentFault shape type number content e =
    (f : FieldShape) × (field_at (fields shape type) number ≡ Some f) × FieldFault shape f content e

-- A content of the field of its number: of the shape that the field's presence asks, each item one of its element, and
-- in a map no key twice. Such a content has none of these faults (`ContentsHaveNoFault`).
pub record IsContentOf (shape : Shape) (type : TypeId) (number : ℕ) (content : Content) : Type 0 where
  pub field : FieldShape
  pub found : field_at (fields shape type) number ≡ Some field
  pub items : ItemsFit shape field.presence field.element content
  pub once : HasKeyTwice content → ⊥

-- two contents are of one number, or of members of one oneof
abbrev pub is_in_oneof : List FieldShape → ℕ → ℕ → Bool
is_in_oneof fs oneof number = same_oneof (option_and_then (λ f. f.oneof) (field_at fs number)) (Some oneof)

-- the contents of members of a oneof
abbrev pub members : List FieldShape → ℕ → List (ℕ × Content) → List (ℕ × Content)
members fs oneof cs = filter (λ (c : ℕ × Content). is_in_oneof fs oneof c.0) cs

abbrev pub HasFieldTwice : List FieldShape → List (ℕ × Content) → Type 0
HasFieldTwice fs cs =
    ((number : ℕ) × PassTwice (λ (c : ℕ × Content). nat_eq c.0 number) cs) ⊎ ((oneof : ℕ) × PassTwice (λ (c : ℕ × Content). is_in_oneof fs oneof c.0) cs)

-- a row of contents, each with the number of its field, has it
abbrev pub ContentsFault : Shape → TypeId → List (ℕ × Content) → DynError → Type 0
ContentsFault shape type cs errors.OneofTwice = HasFieldTwice (fields shape type) cs
ContentsFault shape type cs errors.DuplicateKey = AnyOf (λ (c : ℕ × Content). ContentFault shape type c.0 c.1 errors.DuplicateKey) cs
ContentsFault shape type cs e = FirstOf (λ (c : ℕ × Content). ContentFault shape type c.0 c.1) cs e

-- of what is wrong, the error has the lowest code
abbrev pub IsLowest : (DynError → Type 0) → DynError → Type 0
IsLowest Fault e = Fault e × ((other : DynError) → code_of other < code_of e → Fault other → ⊥)

-- none of the faults of an item or a field, which are looked for before any memory is taken
abbrev pub HasNoEarlyFault : (DynError → Type 0) → Type 0
HasNoEarlyFault Fault = (e : DynError) → code_of e < 605 → Fault e → ⊥

-- nothing is wrong
abbrev pub HasNoFault : (DynError → Type 0) → Type 0
HasNoFault Fault = (e : DynError) → Fault e → ⊥

-- memory was refused, or the error is the lowest fault
abbrev pub MayRefuseFor : (DynError → Type 0) → DynError → Type 0
MayRefuseFor Fault errors.Memory = ⊤
MayRefuseFor Fault e = IsLowest Fault e
