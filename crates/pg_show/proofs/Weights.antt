-- A message weighs more than each message inside it.
use Rattle.std.proofs.Common.{◌≡◌, refl, ◌++◌, ℕ, ◌+◌, ◌≤◌, List, [], ◌∷◌, map, Option, Some, None, Bool, true, false, ap, arith}
use denote.Param.Weighed.{most}
use Rattle.pg_dyn.specs.declared.message_ref.ContentRef.{ContentRef}
use Rattle.pg_dyn.specs.declared.message_ref.ContentRef.TheVariants as contents
use Rattle.pg_dyn.specs.declared.message_ref.EntryRef.{EntryRef}
use Rattle.pg_dyn.specs.declared.message_ref.ValueRef.{ValueRef}
use Rattle.pg_dyn.specs.declared.message_ref.ValueRef.TheVariants as values
use Rattle.pg_dyn.specs.message_ref.Borrowed.{all_seen, content_seen, entry_part, fields_onto, item_part, item_seen, leaf_of}
use Rattle.pg_dyn.specs.word.NumberLists.{numbers_in}
use Rattle.pg_dyn.specs.message.Message.{Leaf, Part}
use Rattle.pg_dyn.specs.message.Kept.{Kept, ends, holds, nests}
use Rattle.pg_dyn.specs.message.KeptParts.{KeptItem}
use Rattle.pg_dyn.specs.message.Weights.{weight}
use Rattle.pg_dyn.specs.message.Replacing.{kept_onto, kept_part}

abbrev pub value_weight : ValueRef → ℕ
value_weight (values.Msg child) = weight child.value
value_weight value = 0

abbrev pub entry_weight : EntryRef → ℕ
entry_weight e = value_weight e.value

abbrev pub content_weight : ContentRef → ℕ
content_weight (contents.One v) = value_weight v
content_weight (contents.Many vs) = most value_weight vs.items
content_weight (contents.Numbers ns) = most value_weight (numbers_in ns)
content_weight (contents.Map es) = most entry_weight es.items

abbrev pub field_weight : ℕ × ContentRef → ℕ
field_weight c = content_weight c.1

pub some_weight : (m : Kept) → 1 ≤ weight m
some_weight (ends type unknown) = omega arith
some_weight (holds number key listed leaf later) = some_weight later
some_weight (nests number key listed child later) = omega (arith, some_weight later)

value_heavier : (number : ℕ) (key : Option Leaf) (listed : Bool) (v : ValueRef) (later : Kept) → value_weight v + weight later ≤ weight (kept_part number key (item_seen listed v) later)
value_heavier number key listed (values.Int n) later = omega arith
value_heavier number key listed (values.F32 n) later = omega arith
value_heavier number key listed (values.F64 n) later = omega arith
value_heavier number key listed (values.Text n) later = omega arith
value_heavier number key listed (values.Bytes n) later = omega arith
value_heavier number key listed (values.Msg child) later = omega arith

items_heavier : (number : ℕ) (vs : List ValueRef) (later : Kept) → most value_weight vs + weight later ≤ weight (kept_onto (map (item_part number true) vs) later)
items_heavier number [] later = omega arith
items_heavier number (v ∷ vs) later = omega (arith, items_heavier number vs later, value_heavier number None true v (kept_onto (map (item_part number true) vs) later))

entries_heavier : (number : ℕ) (es : List EntryRef) (later : Kept) → most entry_weight es + weight later ≤ weight (kept_onto (map (entry_part number) es) later)
entries_heavier number [] later = omega arith
entries_heavier number (e ∷ es) later =
    omega (arith, entries_heavier number es later, value_heavier number (Some (leaf_of e.key)) false e.value (kept_onto (map (entry_part number) es) later))

content_heavier : (number : ℕ) (c : ContentRef) (later : Kept) → content_weight c + weight later ≤ weight (kept_onto (content_seen number c) later)
content_heavier number (contents.One v) later = value_heavier number None false v later
content_heavier number (contents.Many vs) later = items_heavier number vs.items later
content_heavier number (contents.Numbers ns) later = items_heavier number (numbers_in ns) later
content_heavier number (contents.Map es) later = entries_heavier number es.items later

kept_joined : (ps qs : List (Part KeptItem)) (later : Kept) → kept_onto (ps ++ qs) later ≡ kept_onto ps (kept_onto qs later)
kept_joined [] qs later = refl
kept_joined (p ∷ ps) qs later = ap (kept_part p.number p.key p.item) (kept_joined ps qs later)

pub fields_heavier : (fs : List (ℕ × ContentRef)) (later : Kept) → most field_weight fs + weight later ≤ weight (fields_onto fs later)
fields_heavier [] later = omega arith
fields_heavier (f ∷ fs) later =
    omega (arith, fields_heavier fs later, content_heavier f.0 f.1 (kept_onto (all_seen fs) later), ap weight (kept_joined (content_seen f.0 f.1) (all_seen fs) later))
