-- Messages as a decoded set has them: whatever might be bytes is kept as a string, each number is one of 32 bits, and
-- there are no floats.
use Rattle.std.specs.Prelude.{◌≡◌, ⊤, true, List, [], ◌∷◌, map, FitsSigned}
use Rattle.std.specs.Int.{w32}
use Rattle.std.specs.List.{AllByRecursion}
use Rattle.pg_dyn.specs.declared.message_ref.ContentRef.{ContentRef}
use Rattle.pg_dyn.specs.declared.message_ref.ContentRef.TheVariants as contents
use Rattle.pg_dyn.specs.declared.message_ref.EntryRef.{EntryRef}
use Rattle.pg_dyn.specs.declared.message_ref.ValueRef.{ValueRef}
use Rattle.pg_dyn.specs.declared.message_ref.ValueRef.TheVariants as values
use Rattle.pg_dyn.specs.message_ref.Borrowed.{leaf_of}
use Rattle.pg_dyn.specs.message.Kept.{Kept, ends, holds, message_of, nests}
use Rattle.pg_dyn.specs.message.Message.{Int, F32, F64, Bytes, Item, Plain, Msg}
use Rattle.pg_dyn.specs.word.NumberLists.{numbers_in}

-- what is kept of the message is so, and so is every message inside it
abbrev pub IsHeldMessage : Kept → Type 0
IsHeldMessage (ends type unknown) = ⊤
IsHeldMessage (holds number key manner (Int n) later) = FitsSigned w32 n × IsHeldMessage later
IsHeldMessage (holds number key manner (F32 bits) later) = ⊥
IsHeldMessage (holds number key manner (F64 bits) later) = ⊥
IsHeldMessage (holds number key manner (Bytes bytes) later) = (manner.text ≡ true) × IsHeldMessage later
IsHeldMessage (nests number key listed child later) = IsHeldMessage child × IsHeldMessage later

-- a value of such a message
abbrev pub IsSaid : ValueRef → Type 0
IsSaid (values.Int n) = FitsSigned w32 n
IsSaid (values.F32 bits) = ⊥
IsSaid (values.F64 bits) = ⊥
IsSaid (values.Text text) = ⊤
IsSaid (values.Bytes bytes) = ⊥
IsSaid (values.Msg child) = IsHeldMessage child.value

-- the values of a content, of a map those of its entries
abbrev pub values_in : ContentRef → List ValueRef
values_in (contents.One value) = value ∷ []
values_in (contents.Many vs) = vs.items
values_in (contents.Map es) = map (λ (e : EntryRef). e.value) es.items
values_in (contents.Numbers ns) = numbers_in ns

abbrev pub AreSaid : ContentRef → Type 0
AreSaid content = AllByRecursion IsSaid (values_in content)

-- the item that a value is, and those of a content
abbrev pub value_item : ValueRef → Item
value_item (values.Msg child) = Msg (message_of child.value)
value_item value = Plain (leaf_of value)

abbrev pub items_in : ContentRef → List Item
items_in content = map value_item (values_in content)
