-- A message as a writer goes over it, whoever owns its parts.
use Rattle.std.specs.Prelude.{◌≡◌, ◌≢◌, ℕ, List, [], ⊤, Bool, false, Some, None}
use Rattle.std.specs.List.{AllByRecursion}
use Rattle.pg_schema.specs.declared.parts.field.Scalar.{Scalar}
use Rattle.pg_schema.specs.declared.parts.field.TypeId.{TypeId}
use Rattle.pg_schema.specs.Shape.{Shape, FieldShape, fields, field_at}
use Rattle.pg_dyn.specs.declared.encoding.lending.LeafRef.{LeafRef}
use Rattle.pg_dyn.specs.declared.encoding.lending.LeafRef.TheVariants as leaves
use Rattle.pg_dyn.specs.declared.message.Value.{Value}
use Rattle.pg_dyn.specs.declared.message.Value.TheVariants as owned
use Rattle.pg_dyn.specs.declared.message_ref.ContentRef.{ContentRef}
use Rattle.pg_dyn.specs.declared.message_ref.ContentRef.TheVariants as contents
use Rattle.pg_dyn.specs.declared.message_ref.ValueRef.{ValueRef}
use Rattle.pg_dyn.specs.declared.message_ref.ValueRef.TheVariants as lent
use Rattle.pg_dyn.specs.message_ref.Borrowed as borrowed
use Rattle.pg_dyn.specs.word.Coding.{scalar_form}
use Rattle.pg_dyn.specs.message.Kept.{Kept}
use Rattle.pg_dyn.specs.message.KeptParts.{KeptItem, Plain, Msg}
use Rattle.pg_dyn.specs.message.Message.{Leaf, Int, F32, F64, Bytes, Part}
use Rattle.pg_dyn.specs.word.NumberLists.{number_item}
use Rattle.pg_dyn.specs.fitting.PartsFit.{IsPartOf}
use Rattle.pg_dyn.specs.message.Seen.{is_text, leaf_of}

-- An item, whether or not it is in a list. A leaf says whether it is a string.
pub data Bare : Type 0 where
  Lone : Bool → Leaf → Bare
  Child : Kept → Bare

abbrev pub IsLone : Bare → Type 0
IsLone (Lone text leaf) = ⊤
IsLone (Child m) = ⊥

-- the leaf; of a message no bytes
abbrev pub bare_leaf : Bare → Leaf
bare_leaf (Lone text leaf) = leaf
bare_leaf (Child m) = Bytes []

abbrev pub bare : KeptItem → Bare
bare (Plain manner leaf) = Lone manner.text leaf
bare (Msg listed m) = Child m

abbrev pub in_list : Bool → Bare → KeptItem
in_list listed (Lone text leaf) = Plain (record { listed = listed; text = text }) leaf
in_list listed (Child m) = Msg listed m

abbrev pub owned_item : Value → Bare
owned_item (owned.Msg child) = Child child.value
owned_item value = Lone (is_text value) (leaf_of value)

abbrev pub lent_item : ValueRef → Bare
lent_item (lent.Msg child) = Child child.value
lent_item value = Lone (borrowed.is_text value) (borrowed.leaf_of value)

-- the item that a word of the scalar says
abbrev pub word_item : Scalar → ℕ → Bare
word_item s word = lent_item (number_item (scalar_form s) word)

abbrev pub leaf_lent : LeafRef → Leaf
leaf_lent (leaves.Int n) = Int n
leaf_lent (leaves.F32 bits) = F32 bits
leaf_lent (leaves.F64 bits) = F64 bits
leaf_lent (leaves.Bytes bytes) = Bytes bytes.now

-- an item and an entry as parts of a number
abbrev pub item_part : {V : Type 0} → (V → Bare) → ℕ → Bool → V → Part KeptItem
item_part item number listed v = record { number = number; key = None; item = in_list listed (item v) }

abbrev pub entry_part : {V E : Type 0} → (V → Bare) → (E → V) → (E → V) → ℕ → E → Part KeptItem
entry_part item key value number e = record { number = number; key = Some (bare_leaf (item (key e))); item = in_list false (item (value e)) }

-- the content is no list of numbers
abbrev pub HasValues : ContentRef → Type 0
HasValues (contents.One value) = ⊤
HasValues (contents.Many vs) = ⊤
HasValues (contents.Map es) = ⊤
HasValues (contents.Numbers ns) = ⊥

-- just the parts of a map have keys
abbrev pub AreKeyless : List (Part KeptItem) → Type 0
AreKeyless ps = AllByRecursion (λ (p : Part KeptItem). p.key ≡ None) ps

abbrev pub AreKeyed : List (Part KeptItem) → Type 0
AreKeyed ps = AllByRecursion (λ (p : Part KeptItem). p.key ≢ None) ps

-- the parts are those of the field with the number
pub record HoldsParts (shape : Shape) (type : TypeId) (number : ℕ) (ps : List (Part KeptItem)) : Type 0 where
  pub field : FieldShape
  pub found : field_at (fields shape type) number ≡ Some field
  pub each : AllByRecursion (IsPartOf shape field) ps
