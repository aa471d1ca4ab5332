-- What a message that borrows keeps, as `Seen` says it of one that owns its parts.
use Rattle.std.specs.Prelude.{◌≢◌, ℕ, List, [], ◌∷◌, map, ⊤, Bool, true, false, Some, None}
use Rattle.std.specs.List.{AllByRecursion}
use Rattle.pg_wire.specs.Records.{IsRecord}
use Rattle.pg_wire.specs.Reads.{seen_record}
use Rattle.pg_dyn.specs.declared.message_ref.EntryRef.{EntryRef}
use Rattle.pg_dyn.specs.declared.message_ref.ContentRef.{ContentRef}
use Rattle.pg_dyn.specs.declared.message_ref.ContentRef.TheVariants as contents
use Rattle.pg_dyn.specs.declared.message_ref.ValueRef.{ValueRef}
use Rattle.pg_dyn.specs.declared.message_ref.ValueRef.TheVariants as values
use Rattle.pg_dyn.specs.declared.message_ref.MessageRef.TheInside.{Inside}
use Rattle.pg_dyn.specs.message.Message.{Leaf, Int, F32, F64, Bytes, Part}
use Rattle.pg_dyn.specs.message.Kept.{Kept, Manner, ends}
use Rattle.pg_dyn.specs.message.KeptParts.{KeptItem, Plain, Msg, IsPlainItem}
use Rattle.pg_dyn.specs.message.Replacing.{all_parts, kept_onto}
use Rattle.pg_dyn.specs.word.NumberLists.{numbers_in}
use Rattle.pg_dyn.specs.message.Seen.{Rises}

-- a key, which is never a message
abbrev pub leaf_of : ValueRef → Leaf
leaf_of (values.Int n) = Int n
leaf_of (values.F32 bits) = F32 bits
leaf_of (values.F64 bits) = F64 bits
leaf_of (values.Text text) = Bytes text.now
leaf_of (values.Bytes bytes) = Bytes bytes.now
leaf_of (values.Msg child) = Bytes []

-- how a value is kept that is no message
abbrev pub is_text : ValueRef → Bool
is_text (values.Text text) = true
is_text value = false

abbrev pub manner : Bool → ValueRef → Manner
manner listed value = record { listed = listed; text = is_text value }

abbrev pub item_seen : Bool → ValueRef → KeptItem
item_seen listed (values.Msg child) = Msg listed child.value
item_seen listed value = Plain (manner listed value) (leaf_of value)

-- an item and an entry as parts of a number, a content by itself, and the contents of all fields
abbrev pub item_part : ℕ → Bool → ValueRef → Part KeptItem
item_part number listed value = record { number = number; key = None; item = item_seen listed value }

abbrev pub entry_part : ℕ → EntryRef → Part KeptItem
entry_part number e = record { number = number; key = Some (leaf_of e.key); item = item_seen false e.value }

abbrev pub content_seen : ℕ → ContentRef → List (Part KeptItem)
content_seen number (contents.One value) = item_part number false value ∷ []
content_seen number (contents.Many vs) = map (item_part number true) vs.items
content_seen number (contents.Map es) = map (entry_part number) es.items
content_seen number (contents.Numbers ns) = map (item_part number true) (numbers_in ns)

abbrev pub all_seen : List (ℕ × ContentRef) → List (Part KeptItem)
all_seen fs = all_parts content_seen fs

abbrev pub fields_onto : List (ℕ × ContentRef) → Kept → Kept
fields_onto fs later = kept_onto (all_seen fs) later

abbrev pub kept_seen : Inside → Kept
kept_seen a = fields_onto a.fields.items (ends a.type_id (map seen_record a.unknown.items))

-- What holds of every message: the numbers of its fields rise, no content is empty, the keys of its maps are numbers or strings, and
-- each of its unknown records is one.

abbrev pub IsKey : ValueRef → Type 0
IsKey (values.Msg child) = ⊥
IsKey value = ⊤

-- a map's key is a number or a string, since no map has keys of type bytes
abbrev pub IsMapKey : ValueRef → Type 0
IsMapKey (values.Msg child) = ⊥
IsMapKey (values.Bytes bytes) = ⊥
IsMapKey value = ⊤

abbrev pub HasKeys : ContentRef → Type 0
HasKeys (contents.One value) = ⊤
HasKeys (contents.Many vs) = ⊤
HasKeys (contents.Numbers ns) = ⊤
HasKeys (contents.Map es) = AllByRecursion (λ (e : EntryRef). IsMapKey e.key) es.items

-- a content holds something: without an item or an entry there is none
abbrev pub IsFilled : ContentRef → Type 0
IsFilled (contents.One value) = ⊤
IsFilled (contents.Many vs) = vs.items ≢ []
IsFilled (contents.Map es) = es.items ≢ []
IsFilled (contents.Numbers ns) = numbers_in ns ≢ []

pub record IsWellKept (a : Inside) : Type 0 where
  pub rises : Rises a.fields.items
  pub filled : AllByRecursion (λ (f : ℕ × ContentRef). IsFilled f.1) a.fields.items
  pub keys : AllByRecursion (λ (f : ℕ × ContentRef). HasKeys f.1) a.fields.items
  pub records : AllByRecursion IsRecord (map seen_record a.unknown.items)

-- no item of the content is a message with unknown records
abbrev pub ArePlain : ContentRef → Type 0
ArePlain (contents.One value) = IsPlainItem (item_seen false value)
ArePlain (contents.Many vs) = AllByRecursion (λ v. IsPlainItem (item_seen false v)) vs.items
ArePlain (contents.Map es) = AllByRecursion (λ (e : EntryRef). IsPlainItem (item_seen false e.value)) es.items
ArePlain (contents.Numbers ns) = ⊤
