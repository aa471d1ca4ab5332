-- Each message inside a message that borrows weighs less than it, as `Depth` has it of one that owns its parts.
use Rattle.std.specs.Prelude.{◌≡◌, refl, ℕ, ◌≤◌, map, List, [], ◌∷◌, Bool, true, false, ⊤}
use Rattle.std.proofs.Common.{arith}
use denote.Param.Weighed.{most}
use Rattle.pg_wire.specs.Reads.{seen_record}
use Rattle.pg_dyn.specs.declared.message_ref.EntryRef.{EntryRef}
use Rattle.pg_dyn.specs.declared.message_ref.ContentRef.{ContentRef}
use Rattle.pg_dyn.specs.declared.message_ref.ContentRef.TheVariants as contents
use Rattle.pg_dyn.specs.declared.message_ref.ValueRef.{ValueRef}
use Rattle.pg_dyn.specs.declared.message_ref.ValueRef.TheVariants as values
use Rattle.pg_dyn.specs.declared.message_ref.MessageRef.TheInside.{Inside}
use Rattle.pg_dyn.specs.declared.message_ref.MessageRef.TheDeep.{deep-ContentRef, deep-ValueRef}
use Rattle.pg_dyn.specs.declared.message_ref.MessageRef.TheDeep.{deep-EntryRef, deep-MessageRef}
use Rattle.pg_dyn.specs.declared.message_ref.MessageRef.TheShapes.{weighed-MessageRef-fields-at-2}
use Rattle.pg_dyn.specs.message.Kept.{Kept, ends}
use Rattle.pg_dyn.specs.message.Replacing.{kept_onto}
use Rattle.pg_dyn.specs.message.Weights.{weight}
use Rattle.pg_dyn.specs.word.NumberLists.{numbers_in}
use Rattle.pg_dyn.specs.message_ref.Borrowed.{content_seen, entry_part, item_part, item_seen, kept_seen}
use Rattle.pg_dyn.specs.message_ref.Borrowed.{IsMapKey, HasKeys, IsWellKept}
use Rattle.pg_dyn.specs.inner.PartsDepth.{Deeper, each_any, fields_deep, heft, list_deep}

value_deep : (listed : Bool) (v : ValueRef) → deep-ValueRef v ≤ heft (item_seen listed v)
value_deep listed (values.Int n) = omega arith
value_deep listed (values.F32 n) = omega arith
value_deep listed (values.F64 n) = omega arith
value_deep listed (values.Text n) = omega arith
value_deep listed (values.Bytes n) = omega arith
value_deep listed (values.Msg child) = omega arith

key_deep : (v : ValueRef) → IsMapKey v → deep-ValueRef v ≡ 0
key_deep (values.Int n) h = refl
key_deep (values.F32 n) h = refl
key_deep (values.F64 n) h = refl
key_deep (values.Text n) h = refl
key_deep (values.Bytes n) h = absurd h
key_deep (values.Msg child) h = absurd h

items_deep : (number : ℕ) (listed : Bool) (vs : List ValueRef) (later : Kept) → 1 ≤ weight later
    → Deeper (most (λ v. deep-ValueRef v) vs) later (kept_onto (map (item_part number listed) vs) later)
items_deep number listed vs later h =
    list_deep (item_part number listed) (λ v. deep-ValueRef v) (λ v. ⊤)
    (λ v k. value_deep listed v) vs later (each_any vs) h

content_deep : (number : ℕ) (c : ContentRef) (later : Kept) → HasKeys c → 1 ≤ weight later
    → Deeper (deep-ContentRef c) later (kept_onto (content_seen number c) later)
content_deep number (contents.One v) later keys h =
    let e = items_deep number false (v ∷ []) later h in
    (omega (arith, e.0), omega (arith, e.1))
content_deep number (contents.Many vs) later keys h =
    let e = items_deep number true vs.items later h in
    (omega (arith, e.0), omega (arith, e.1))
content_deep number (contents.Numbers ns) later keys h =
    let e = items_deep number true (numbers_in ns) later h in
    (omega arith, omega (arith, e.1))
content_deep number (contents.Map es) later keys h =
    let e = list_deep (entry_part number) (λ e. deep-EntryRef e) (λ (e : EntryRef). IsMapKey e.key)
    (λ e key. omega (arith, key_deep e.key key, value_deep false e.value)) es.items later keys h in
    (omega (arith, e.0), omega (arith, e.1))

pub message_deep : (a : Inside) → IsWellKept a → deep-MessageRef a ≤ weight (kept_seen a)
message_deep a h =
    let e = fields_deep content_seen ((weighed-MessageRef-fields-at-2).weight ContentRef deep-ContentRef)
    (λ (f : ℕ × ContentRef). HasKeys f.1)
    (λ f later keys above. let k = content_deep f.0 f.1 later keys above in (omega (arith, k.0), k.1))
    a.fields.items (ends a.type_id (map seen_record a.unknown.items)) h.keys (omega arith) in
    omega (arith, e.0)
