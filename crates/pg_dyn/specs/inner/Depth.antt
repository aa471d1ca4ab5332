-- Each message inside a message weighs less than it.
use Rattle.std.specs.Prelude.{◌≡◌, refl, ℕ, ◌≤◌, map, List, [], ◌∷◌, Bool, true, false, ⊤}
use Rattle.std.proofs.Common.{arith}
use denote.Param.Weighed.{most}
use Rattle.pg_dyn.specs.declared.message.Content.{Content}
use Rattle.pg_dyn.specs.declared.message.Content.TheVariants as contents
use Rattle.pg_dyn.specs.declared.message.Value.{Value}
use Rattle.pg_dyn.specs.declared.message.Value.TheVariants as values
use Rattle.pg_dyn.specs.declared.message.Message.TheInside.{Inside}
use Rattle.pg_dyn.specs.declared.message.Message.TheDeep.{deep-Content, deep-Value, deep-Message}
use Rattle.pg_dyn.specs.declared.message.Message.TheShapes.{weighed-Content-Map-0-at-2, weighed-Message-fields-at-2}
use Rattle.pg_dyn.specs.message.Kept.{Kept, ends}
use Rattle.pg_dyn.specs.message.Replacing.{kept_onto}
use Rattle.pg_dyn.specs.message.Weights.{weight}
use Rattle.pg_dyn.specs.message.Seen.{content_seen, entry_part, item_part, item_seen, kept_seen, record_seen}
use Rattle.pg_dyn.specs.message.Seen.{IsMapKey, HasKeys, IsWellKept}
use Rattle.pg_dyn.specs.inner.PartsDepth.{Deeper, each_any, fields_deep, heft, list_deep}

value_deep : (listed : Bool) (v : Value) → deep-Value v ≤ heft (item_seen listed v)
value_deep listed (values.Int n) = omega arith
value_deep listed (values.F32 n) = omega arith
value_deep listed (values.F64 n) = omega arith
value_deep listed (values.Text n) = omega arith
value_deep listed (values.Bytes n) = omega arith
value_deep listed (values.Msg child) = omega arith

key_deep : (v : Value) → IsMapKey v → deep-Value v ≡ 0
key_deep (values.Int n) h = refl
key_deep (values.F32 n) h = refl
key_deep (values.F64 n) h = refl
key_deep (values.Text n) h = refl
key_deep (values.Bytes n) h = absurd h
key_deep (values.Msg child) h = absurd h

items_deep : (number : ℕ) (listed : Bool) (vs : List Value) (later : Kept) → 1 ≤ weight later
    → Deeper (most (λ v. deep-Value v) vs) later (kept_onto (map (item_part number listed) vs) later)
items_deep number listed vs later h =
    list_deep (item_part number listed) (λ v. deep-Value v) (λ v. ⊤)
    (λ v k. value_deep listed v) vs later (each_any vs) h

content_deep : (number : ℕ) (c : Content) (later : Kept) → HasKeys c → 1 ≤ weight later
    → Deeper (deep-Content c) later (kept_onto (content_seen number c) later)
content_deep number (contents.One v) later keys h =
    let e = items_deep number false (v ∷ []) later h in
    (omega (arith, e.0), omega (arith, e.1))
content_deep number (contents.Many vs) later keys h =
    let e = items_deep number true vs.items later h in
    (omega (arith, e.0), omega (arith, e.1))
content_deep number (contents.Map es) later keys h =
    let e = list_deep (entry_part number) ((weighed-Content-Map-0-at-2).weight Value deep-Value)
    (λ (e : Value × Value). IsMapKey e.0)
    (λ e key. omega (arith, key_deep e.0 key, value_deep false e.1)) es.items later keys h in
    (omega (arith, e.0), omega (arith, e.1))

pub message_deep : (a : Inside) → IsWellKept a → deep-Message a ≤ weight (kept_seen a)
message_deep a h =
    let e = fields_deep content_seen ((weighed-Message-fields-at-2).weight Content deep-Content)
    (λ (f : ℕ × Content). HasKeys f.1)
    (λ f later keys above. let k = content_deep f.0 f.1 later keys above in (omega (arith, k.0), k.1))
    a.fields.items (ends a.type_id (map record_seen a.unknown.items)) h.keys (omega arith) in
    omega (arith, e.0)
