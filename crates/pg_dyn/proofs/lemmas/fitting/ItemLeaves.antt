-- Items as leaves.
use Rattle.std.proofs.Common.{Box, Global, ◌≡◌, ℕ, Bool, false, Option, ap, arith}
use Rattle.std.specs.Prelude.{⊤}
use Rattle.pg_schema.specs.declared.parts.field.Scalar.{Scalar}
use Rattle.pg_schema.specs.declared.parts.field.TypeId.{TypeId}
use Rattle.pg_schema.specs.declared.parts.field.Element.{Element}
use Rattle.pg_schema.specs.declared.parts.field.Element.TheVariants as elements
use Rattle.pg_schema.specs.declared.parts.field.Presence.{Presence}
use Rattle.pg_schema.specs.declared.parts.field.Presence.TheVariants as presences
use Rattle.pg_schema.specs.Shape.{Shape}
use Rattle.pg_dyn.specs.declared.message.Message.{Message}
use Rattle.pg_dyn.specs.declared.message.Value.{Value}
use Rattle.pg_dyn.specs.declared.message.Value.TheVariants as values
use Rattle.pg_dyn.specs.message.Message.{Leaf, is_zero}
use Rattle.pg_dyn.specs.word.Coding.{InRange, scalar_form}
use Rattle.pg_dyn.specs.message.Kept.{Kept, Manner, type_of}
use Rattle.pg_dyn.specs.message.KeptParts.{KeptItem, Plain, Msg}
use Rattle.pg_dyn.specs.message.Seen.{is_text, leaf_of, item_seen, manner, IsKey, IsMapKey}
use Rattle.pg_dyn.specs.fitting.Belonging.{LeafFits, MayBeZero}
use Rattle.pg_dyn.specs.fitting.Fits.{Fits, is_string}
use Rattle.pg_dyn.specs.fitting.ScalarItems.{IsItemOf}
use Rattle.pg_dyn.specs.fitting.ContentFits.{is_zero_value, ItemFits}
use Rattle.pg_dyn.specs.fitting.Texts.{kept_item}
use Rattle.pg_dyn.proofs.lemmas.reading.Fields.{field_of}

pub in_range : (s : Scalar) (v : Value) → IsItemOf s v → InRange (scalar_form s) (leaf_of v)
in_range s v h = grind arith

pub item_of_range : (s : Scalar) (v : Value) → IsKey v → InRange (scalar_form s) (leaf_of v) → IsItemOf s v
item_of_range s v key h = grind arith

pub item_is_key : (s : Scalar) (v : Value) → IsItemOf s v → IsKey v
item_is_key s v h = grind arith

-- a map's key is one
pub map_key_is_key : (v : Value) → IsMapKey v → IsKey v
map_key_is_key v h = grind arith

pub zero_of_key : (v : Value) → IsKey v → is_zero_value v ≡ is_zero (leaf_of v)
zero_of_key v key = grind arith

pub key_seen : (v : Value) → IsKey v → item_seen false v ≡ Plain (manner false v) (leaf_of v)
key_seen v h = grind arith

-- an implicit field holds no zero
abbrev pub ZeroFits : Presence → Value → Type 0
ZeroFits presences.Implicit v = is_zero_value v ≡ false
ZeroFits presences.Explicit v = ⊤
ZeroFits (presences.Repeated packed) v = ⊤
ZeroFits (presences.Map key) v = ⊤

pub zero_to : (p : Presence) (v : Value) → IsKey v → ZeroFits p v → MayBeZero p (leaf_of v)
zero_to p v key h = grind (arith, zero_of_key)

pub zero_back : (p : Presence) (v : Value) → IsKey v → MayBeZero p (leaf_of v) → ZeroFits p v
zero_back p v key h = grind (arith, zero_of_key)

pub zero_of_child : (p : Presence) (v : Value) → is_zero_value v ≡ false → ZeroFits p v
zero_of_child p v h = grind arith

-- what is no message is no item of a message field
pub no_leaf : (shape : Shape) (t : TypeId) (v : Value) → IsKey v → ItemFits shape (elements.Message t) v → ⊥
no_leaf shape t v key h = grind arith

pub leaf_to : (shape : Shape) (n : ℕ) (p : Presence) (e : Element) (o : Option ℕ) (v : Value) → IsKey v → ItemFits shape e v → ZeroFits p v → LeafFits (field_of n p e o) (leaf_of v)
leaf_to shape n p e o v key item h = grind (arith, in_range, zero_to, no_leaf)

pub leaf_back : (shape : Shape) (n : ℕ) (p : Presence) (e : Element) (o : Option ℕ) (v : Value) → IsKey v → LeafFits (field_of n p e o) (leaf_of v) → ItemFits shape e v × ZeroFits p v
leaf_back shape n p e o v key h = grind (arith, item_of_range, zero_back)

pub child_of : (shape : Shape) (e : Element) (child : Box Message Global) → ItemFits shape e (values.Msg child) → (t : TypeId) × (e ≡ elements.Message t) × Fits shape child.value × (type_of child.value ≡ t)
child_of shape e child h = grind arith

-- an item of a message field is no string
pub child_text : (shape : Shape) (e : Element) (t : TypeId) → e ≡ elements.Message t → (v : Value) → ItemFits shape e v → is_text v ≡ is_string e
child_text shape e t is v h = grind arith

-- An item that is shown as its field keeps it is a string just where the field's element is string.

abbrev text_of : KeptItem → Bool
text_of (Plain how leaf) = how.text
text_of (Msg listed child) = false

no_leaf_shown : (how : Manner) (leaf : Leaf) (listed : Bool) (child : Kept) → ◌≡◌ {A = KeptItem} (Plain how leaf) (Msg listed child) → ⊥
no_leaf_shown how leaf listed child e = cc

shown_text : (e : Element) (how : Manner) (leaf : Leaf) (x : KeptItem) → Plain how leaf ≡ kept_item e x → how.text ≡ is_string e
shown_text e how leaf (Plain other same) is = ap text_of is
shown_text e how leaf (Msg listed child) is = absurd (no_leaf_shown how leaf listed child is)

pub kept_text : (shape : Shape) (e : Element) (l : Bool) (w : Value) (x : KeptItem) → ItemFits shape e w → item_seen l w ≡ kept_item e x → is_text w ≡ is_string e
kept_text shape e l w x item is = grind (arith, shown_text, child_of, child_text)
