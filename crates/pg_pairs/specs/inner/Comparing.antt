-- An old message beside a new one, content by content: whether the new one shows what the old one holds.
use Rattle.std.specs.Prelude.{ℕ, ◌≤◌, ⊤, length, List, [], ◌∷◌, map, filter, Bool, true, not, ◌&&◌, if◌then◌else◌, Option, Some, None, option_map, is_none}
use lib.Pointwise.{pointwise}
use Rattle.pg_schema.specs.declared.parts.field.Element.{Element}
use Rattle.pg_schema.specs.declared.parts.field.Element.TheVariants as elements
use Rattle.pg_schema.specs.declared.parts.field.TypeId.{TypeId}
use Rattle.pg_schema.specs.declared.parts.Parts.{Parts}
use Rattle.pg_schema.specs.Parts.{shape_of}
use Rattle.pg_schema.specs.Shape.{Shape, FieldShape, field_at, fields}
use Rattle.pg_wire.specs.declared.record.Record.{Record}
use Rattle.pg_dyn.specs.declared.view_name.ViewName.{ViewName}
use Rattle.pg_dyn.specs.declared.message_ref.ContentRef.{ContentRef}
use Rattle.pg_dyn.specs.declared.message_ref.ContentRef.TheVariants as contents
use Rattle.pg_dyn.specs.declared.message_ref.EntryRef.{EntryRef}
use Rattle.pg_dyn.specs.declared.message_ref.ValueRef.{ValueRef}
use Rattle.pg_dyn.specs.declared.message_ref.ValueRef.TheVariants as values
use Rattle.pg_dyn.specs.message_ref.Borrowed.{IsKey, leaf_of}
use Rattle.pg_dyn.specs.word.NumberLists.{numbers_in}
use Rattle.pg_dyn.specs.message_ref.BorrowedItems.{ItemFits, is_zero_value}
use Rattle.pg_dyn.specs.message.Message.{Leaf, Int, Item, Plain, Msg, parts}
use Rattle.pg_dyn.specs.message.Kept.{Kept, type_of, message_of}
use Rattle.pg_dyn.specs.encoding.Encoding.{cap, element_type, enc}
use Rattle.pg_dyn.specs.views.Comparison.{Expected, Alike, same_content, same_key, matches, expected, same}
use Rattle.pg_dyn.specs.views.Comparison as comparison
use Rattle.pg_dyn.specs.views.ViewNames.{view_named}

-- a value that is lent as an item of a message
abbrev pub item_lent : ValueRef → Item
item_lent (values.Msg child) = Msg (message_of child.value)
item_lent value = Plain (leaf_of value)

module _ (view : ViewName) (old new : Parts) where
  -- the new message shows what the old one means
  abbrev pub is_same : Kept → Kept → Bool
  is_same v w =
      same (view_named view old new) (shape_of old) (shape_of new) (type_of v) (type_of w) (message_of v) (message_of w)

  -- it does so in one field of the old type, beside the new type's field of its number
  abbrev pub is_same_beside : Kept → Kept → FieldShape → Option FieldShape → Bool
  is_same_beside v w f (Some g) =
      same_content (view_named view old new) f g
      (expected (view_named view old new) (shape_of old) (shape_of new) (type_of v) (type_of w) (message_of v))
      (parts (message_of w))
  is_same_beside v w f None = true

  -- it does so in a field of the old type, where there is one
  abbrev pub is_same_if : Kept → Kept → Option FieldShape → Bool
  is_same_if v w (Some f) = is_same_beside v w f (field_at (fields (shape_of new) (type_of w)) f.number)
  is_same_if v w None = true

  -- what an item of a field whose messages are read as that type has to be met by
  abbrev pub value_expected : TypeId → ValueRef → Expected
  value_expected b (values.Msg child) =
      comparison.Kept (same (view_named view old new) (shape_of old) (shape_of new) (type_of child.value) b
      (message_of child.value))
  value_expected b value = Alike (leaf_of value)

  -- a leaf of an enum is alike by the view, any other by itself
  abbrev pub is_alike_leaf : Element → Element → Leaf → Bool
  is_alike_leaf (elements.Enum e) (elements.Enum g) (Int n) = view_named view old new e g n
  is_alike_leaf e g leaf = true

  abbrev pub items_match : FieldShape → FieldShape → ValueRef → ValueRef → Bool
  items_match f g a b = matches (view_named view old new) f g (value_expected (element_type g.element) a) (item_lent b)

-- a message's encoding isn't too long
abbrev pub HasEncoding : Shape → Kept → Type 0
HasEncoding shape m = length (enc shape (type_of m) (message_of m)) ≤ cap

-- nor is that of a message as an item
abbrev pub ItemHasEncoding : Shape → ValueRef → Type 0
ItemHasEncoding shape (values.Msg child) = HasEncoding shape child.value
ItemHasEncoding shape value = ⊤

-- the items of a content, each with its key in a map
abbrev pub Keyed : Type 0
Keyed = Option ValueRef × ValueRef

abbrev pub keyed : ContentRef → List Keyed
keyed (contents.One value) = (None, value) ∷ []
keyed (contents.Many vs) = map (λ value. (None, value)) vs.items
keyed (contents.Numbers ns) = map (λ value. (None, value)) (numbers_in ns)
keyed (contents.Map es) = map (λ (e : EntryRef). (Some e.key, e.value)) es.items

-- a key, where there is one, is no message
abbrev pub IsKeyIf : Option ValueRef → Type 0
IsKeyIf (Some key) = IsKey key
IsKeyIf None = ⊤

-- such a key, and an item of the element
abbrev pub HeldFits : Shape → Element → Keyed → Type 0
HeldFits shape element x = IsKeyIf x.0 × ItemFits shape element x.1

abbrev pub keyed_if : Option ContentRef → List Keyed
keyed_if (Some content) = keyed content
keyed_if None = []

-- those that are shown
abbrev pub keyed_shown : Bool → Option ContentRef → List Keyed
keyed_shown hidden content = filter (λ (x : Keyed). not (hidden && is_zero_value x.1)) (keyed_if content)

-- one item at most, in no list
abbrev pub IsSingle : Option ContentRef → Type 0
IsSingle (Some (contents.One value)) = ⊤
IsSingle None = ⊤
IsSingle content = ⊥

module _ (view : ViewName) (old new : Parts) where
  abbrev pub keyed_match : FieldShape → FieldShape → Keyed → Keyed → Bool
  keyed_match f g x y =
      same_key (option_map leaf_of x.0) (option_map leaf_of y.0) && items_match view old new f g x.1 y.1

  -- as many items on both sides, with equal keys, and each is met
  abbrev pub all_match : FieldShape → FieldShape → List Keyed → List Keyed → Bool
  all_match f g xs ys = pointwise (keyed_match f g) xs ys

-- the bytes of a record whose number the type hasn't
abbrev pub outside_record : List FieldShape → Record → List ℕ
outside_record gs r = if is_none (field_at gs r.number) then r.bytes.now else []
