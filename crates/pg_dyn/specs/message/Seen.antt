-- What the program's message keeps: where its vectors and strings are in memory isn't seen.
use Rattle.std.specs.Prelude.{◌≢◌, ℕ, ◌<◌, ◌≤◌, List, [], ◌∷◌, length, map, drop, ⊤, Bool, true, false, Some, None, string_bytes}
use Rattle.std.specs.List.{AllByRecursion}
use Rattle.pg_wire.specs.Records.{WireRecord, IsRecord}
use Rattle.pg_dyn.specs.declared.message.UnknownRecord.{UnknownRecord}
use Rattle.pg_dyn.specs.declared.message.Content.{Content}
use Rattle.pg_dyn.specs.declared.message.Content.TheVariants as contents
use Rattle.pg_dyn.specs.declared.message.Value.{Value}
use Rattle.pg_dyn.specs.declared.message.Value.TheVariants as values
use Rattle.pg_dyn.specs.declared.message.Message.TheInside.{Inside}
use Rattle.pg_dyn.specs.message.Message.{Leaf, Int, F32, F64, Bytes, Part}
use Rattle.pg_dyn.specs.message.Kept.{Kept, Manner, ends}
use Rattle.pg_dyn.specs.message.KeptParts.{KeptItem, Plain, Msg, IsPlainItem}
use Rattle.pg_dyn.specs.message.Replacing.{all_parts, kept_onto}

abbrev pub record_seen : UnknownRecord → WireRecord
record_seen r = record { number = r.number; wire = r.wire_type; body = drop r.body_start r.bytes.items; bytes = r.bytes.items }

-- the body of an unknown record ends where its bytes do, so an empty one begins there
abbrev pub HasBody : UnknownRecord → Type 0
HasBody r = r.body_start ≤ length r.bytes.items

-- a key, which is never a message
abbrev pub leaf_of : Value → Leaf
leaf_of (values.Int n) = Int n
leaf_of (values.F32 bits) = F32 bits
leaf_of (values.F64 bits) = F64 bits
leaf_of (values.Text text) = Bytes (string_bytes text)
leaf_of (values.Bytes bytes) = Bytes bytes.items
leaf_of (values.Msg child) = Bytes []

-- how a value is kept that is no message
abbrev pub is_text : Value → Bool
is_text (values.Text text) = true
is_text value = false

abbrev pub manner : Bool → Value → Manner
manner listed value = record { listed = listed; text = is_text value }

abbrev pub item_seen : Bool → Value → KeptItem
item_seen listed (values.Msg child) = Msg listed child.value
item_seen listed value = Plain (manner listed value) (leaf_of value)

-- an item and an entry as parts of a number, a content by itself, and the contents of all fields
abbrev pub item_part : ℕ → Bool → Value → Part KeptItem
item_part number listed value = record { number = number; key = None; item = item_seen listed value }

abbrev pub entry_part : ℕ → Value × Value → Part KeptItem
entry_part number e = record { number = number; key = Some (leaf_of e.0); item = item_seen false e.1 }

abbrev pub content_seen : ℕ → Content → List (Part KeptItem)
content_seen number (contents.One value) = item_part number false value ∷ []
content_seen number (contents.Many vs) = map (item_part number true) vs.items
content_seen number (contents.Map es) = map (entry_part number) es.items

abbrev pub all_seen : List (ℕ × Content) → List (Part KeptItem)
all_seen fs = all_parts content_seen fs

abbrev pub fields_onto : List (ℕ × Content) → Kept → Kept
fields_onto fs later = kept_onto (all_seen fs) later

abbrev pub kept_seen : Inside → Kept
kept_seen a = fields_onto a.fields.items (ends a.type_id (map record_seen a.unknown.items))

-- What holds of every message: the numbers of its fields rise, no content is empty, the keys of its maps are numbers or strings, and
-- each of its unknown records is one, with its body inside.

abbrev pub IsKey : Value → Type 0
IsKey (values.Msg child) = ⊥
IsKey value = ⊤

-- a map's key is a number or a string, since no map has keys of type bytes
abbrev pub IsMapKey : Value → Type 0
IsMapKey (values.Msg child) = ⊥
IsMapKey (values.Bytes bytes) = ⊥
IsMapKey value = ⊤

abbrev pub HasKeys : Content → Type 0
HasKeys (contents.One value) = ⊤
HasKeys (contents.Many vs) = ⊤
HasKeys (contents.Map es) = AllByRecursion (λ (e : Value × Value). IsMapKey e.0) es.items

-- a content holds something: without an item or an entry there is none
abbrev pub IsFilled : Content → Type 0
IsFilled (contents.One value) = ⊤
IsFilled (contents.Many vs) = vs.items ≢ []
IsFilled (contents.Map es) = es.items ≢ []

abbrev pub Rises : {A : Type 0} → List (ℕ × A) → Type 0
Rises [] = ⊤
Rises {A} (f ∷ fs) = AllByRecursion (λ (g : ℕ × A). f.0 < g.0) fs × Rises fs

pub record IsWellKept (a : Inside) : Type 0 where
  pub rises : Rises a.fields.items
  pub filled : AllByRecursion (λ (f : ℕ × Content). IsFilled f.1) a.fields.items
  pub keys : AllByRecursion (λ (f : ℕ × Content). HasKeys f.1) a.fields.items
  pub records : AllByRecursion IsRecord (map record_seen a.unknown.items)
  pub bodies : AllByRecursion HasBody a.unknown.items

-- no item of the content is a message with unknown records
abbrev pub ArePlain : Content → Type 0
ArePlain (contents.One value) = IsPlainItem (item_seen false value)
ArePlain (contents.Many vs) = AllByRecursion (λ v. IsPlainItem (item_seen false v)) vs.items
ArePlain (contents.Map es) = AllByRecursion (λ (e : Value × Value). IsPlainItem (item_seen false e.1)) es.items
