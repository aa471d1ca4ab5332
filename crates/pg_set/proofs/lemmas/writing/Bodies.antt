-- The bytes of several messages, put one after the other.
use Rattle.std.proofs.Common.{◌≡◌, ℕ, ◌+◌, ◌<◌, List, [], ◌∷◌, ◌++◌, Vec, length, take, get_or, ap, sym, subst, ◌∙◌, append_assoc, rules}
use Rattle.std.specs.Global.{Global}
use Rattle.std.proofs.lemmas.List.{get_or-map, length-map, map_more}
use Rattle.pg_schema.specs.declared.parts.field.TypeId.{TypeId}
use Rattle.pg_dyn.specs.message.Message.{Item, Msg, Part, message_from}
use Rattle.pg_set.specs.inner.writing.Drafts.{Drafted, items_within, put, read_items}
use Rattle.pg_set.specs.writing.Items.{Items, child, children, item}

children_step : (type : TypeId) (number : ℕ) (bodies : List (Vec ℕ Global)) (i : ℕ) (body : Vec ℕ Global) → i < length bodies → body ≡ get_or bodies i body
    → children number (take i (items_within type bodies)) ++ child number (read_items type body.items) ≡ children number (take (i + 1) (items_within type bodies))
children_step type number bodies i body h is =
    let read = λ (b : Vec ℕ Global). read_items type b.items in
    let shown = λ (parts : Items). item number (Msg (message_from parts [])) in
    let within : i < length (items_within type bodies) = subst (λ n. i < n) (sym (length-map bodies read)) h in
    let there : get_or (items_within type bodies) i (read body) ≡ read body = get_or-map read bodies i body (read body) h ∙ ap read (sym is) in
    ap (λ (p : Part Item). children number (take i (items_within type bodies)) ++ p ∷ []) (ap shown (sym there)) ∙ sym (map_more shown (items_within type bodies) i (read body) within)

-- the draft with one message more
pub child_put : (type : TypeId) (number : ℕ) (bodies : List (Vec ℕ Global)) (i : ℕ) (body : Vec ℕ Global) (bytes : List ℕ) (items : List Items) (first old new : Drafted) → i < length bodies → body ≡ get_or bodies i body
    → bytes ≡ body.items → items_within type bodies ≡ items → old ≡ put number (children number (take i items)) first → new ≡ put number (child number (read_items type bytes)) old
    → new ≡ put number (children number (take (i + 1) items)) first
child_put type number bodies i body bytes items first old new h is same all before more = search (rules, append_assoc, children_step)
