-- Items and entries of a message that borrows.
use Rattle.std.proofs.Common.{◌≡◌, ℕ, List, Bool, true, false, arith}
use Rattle.std.specs.Prelude.{⊤}
use Rattle.std.specs.List.{AllByRecursion}
use Rattle.std.specs.Cmp.{IsStrictWeakOrder}
use Rattle.std.proofs.lemmas.List.MinMax.{ranks_by}
use Rattle.pg_schema.specs.declared.parts.field.Scalar.{Scalar}
use Rattle.pg_schema.specs.declared.parts.field.Scalar.TheVariants as scalars
use Rattle.pg_schema.specs.declared.parts.field.Element.{Element}
use Rattle.pg_schema.specs.declared.parts.field.Presence.{Presence}
use Rattle.pg_schema.specs.Shape.{Shape, FieldShape, is_repeated}
use Rattle.pg_schema.specs.rules.Fields.{is_key}
use Rattle.pg_dyn.specs.declared.message_ref.EntryRef.{EntryRef}
use Rattle.pg_dyn.specs.declared.message_ref.ValueRef.{ValueRef}
use Rattle.pg_dyn.specs.fitting.Belonging.{LeafFits, MayBeZero}
use Rattle.pg_dyn.specs.message_ref.Borrowed.{IsKey, IsMapKey, item_seen, leaf_of, manner}
use Rattle.pg_dyn.specs.message_ref.BorrowedItems.{AreAlike, IsItemKept, ItemKept, is_zero_value, key_of, ranks_below}
use Rattle.pg_dyn.specs.word.Coding.{Form, Integer, Single, Double, Text, Raw, InRange, scalar_form}
use Rattle.pg_dyn.specs.message.Kept.{Manner}
use Rattle.pg_dyn.specs.message.KeptParts.{KeptItem, Plain, Msg}
use Rattle.pg_dyn.specs.message.KeyOrder.{IsOfKind}
use Rattle.pg_dyn.specs.message.Message.{Leaf, Bytes, is_zero}
use Rattle.pg_dyn.specs.fitting.PartsFit.{HoldsItem, IsElementKept}
use Rattle.pg_dyn.specs.fitting.Fits.{is_string}
use Rattle.pg_dyn.proofs.lemmas.message.KeyLaws.{rank_total}
use Rattle.pg_dyn.proofs.Lists.{each_weaker}

pub in_range : (s : Scalar) (v : ValueRef) → IsItemKept s v → InRange (scalar_form s) (leaf_of v)
in_range s v h = grind arith

pub item_is_key : (s : Scalar) (v : ValueRef) → IsItemKept s v → IsKey v
item_is_key s v h = grind arith

pub zero_of_key : (v : ValueRef) → IsKey v → is_zero_value v ≡ is_zero (leaf_of v)
zero_of_key v key = grind arith

pub key_listed : (listed : Bool) (v : ValueRef) → IsKey v → item_seen listed v ≡ Plain (manner listed v) (leaf_of v)
key_listed listed v h = grind arith

pub key_seen : (v : ValueRef) → IsKey v → item_seen false v ≡ Plain (manner false v) (leaf_of v)
key_seen v h = key_listed false v h

-- An item that fits the element is one of a field of that element.

abbrev pub LeafMayBeZero : Presence → KeptItem → Type 0
LeafMayBeZero p (Plain listed leaf) = MayBeZero p leaf
LeafMayBeZero p (Msg listed child) = ⊤

leaf_holds : (shape : Shape) (f : FieldShape) (e : Element) (how : Manner) (leaf : Leaf) → f.element ≡ e → IsElementKept shape e (Plain how leaf)
    → MayBeZero f.presence leaf → LeafFits f leaf
leaf_holds shape f e how leaf is h k = grind arith

leaf_text : (shape : Shape) (f : FieldShape) (e : Element) (how : Manner) (leaf : Leaf) → f.element ≡ e → IsElementKept shape e (Plain how leaf)
    → how.text ≡ is_string f.element
leaf_text shape f e how leaf is h = grind arith

-- an item of a field, listed or not
pub value_holds : (shape : Shape) (f : FieldShape) (listed : Bool) (v : ValueRef) → is_repeated f.presence ≡ listed → ItemKept shape f.element v
    → LeafMayBeZero f.presence (item_seen false v) → HoldsItem shape f (item_seen listed v)
value_holds shape f listed v is h k = grind (arith, leaf_text, leaf_holds)

-- Entries and their keys.

-- a key that is bytes is one of type string
pub key_bytes : (s : Scalar) (bytes : List ℕ) → is_key s ≡ true → InRange (scalar_form s) (Bytes bytes) → s ≡ scalars.String
key_bytes s bytes key h = grind arith

pub map_key : (s : Scalar) (v : ValueRef) → is_key s ≡ true → IsItemKept s v → IsMapKey v
map_key s v key h = grind (arith, key_bytes)

pub ranks_entries : IsStrictWeakOrder ranks_below
ranks_entries = ranks_by rank_total key_of

abbrev kind : Form → Bool
kind (Integer whole) = true
kind Single = false
kind Double = false
kind Text = false
kind Raw = false

abbrev IsKeyForm : Form → Type 0
IsKeyForm (Integer whole) = ⊤
IsKeyForm Single = ⊥
IsKeyForm Double = ⊥
IsKeyForm Text = ⊤
IsKeyForm Raw = ⊤

key_form : (s : Scalar) → is_key s ≡ true → IsKeyForm (scalar_form s)
key_form s h = grind arith

kind_in_range : (f : Form) (leaf : Leaf) → IsKeyForm f → InRange f leaf → IsOfKind (kind f) leaf
kind_in_range f leaf k h = grind arith

-- keys of one scalar are alike
pub keys_alike : (es : List EntryRef) (s : Scalar) → is_key s ≡ true → AllByRecursion (λ (e : EntryRef). IsItemKept s e.key) es → AreAlike es
keys_alike es s key h = (
  kind (scalar_form s),
  each_weaker (λ (e : EntryRef). IsItemKept s e.key) (λ (e : EntryRef). IsOfKind (kind (scalar_form s)) (key_of e))
      (λ e item. kind_in_range (scalar_form s) (key_of e) (key_form s key) (in_range s e.key item)) es h,
)
