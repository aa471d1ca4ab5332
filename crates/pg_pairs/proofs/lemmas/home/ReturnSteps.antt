-- Whether one of the pairs that a pair leads to packs what was singular.
use Rattle.std.proofs.Common.{◌≡◌, List, [], ◌∷◌, Bool, true, false, not, ◌||◌, ◌↔◌, ◌⊎◌, ⊎_elim, map, None, nat_lt, refl, ap, sym, ◌∙◌, subst, true≢false, rules}
use Rattle.std.specs.List.{AllByRecursion, list_any}
use Rattle.std.proofs.lemmas.Bool.{ltb-false}
use Rattle.std.proofs.lemmas.List.{get_or_past}
use Rattle.pg_schema.specs.declared.parts.field.Field.{Field}
use Rattle.pg_schema.specs.declared.parts.Parts.{Parts}
use Rattle.pg_schema.specs.Parts.{field_shape, shape_of}
use Rattle.pg_schema.specs.Lookups.{type_at}
use Rattle.pg_schema.specs.Shape.{Shape, FieldShape, fields, field_at}
use Rattle.pg_pairs.specs.declared.choices.choice.Pair.{Pair}
use Rattle.pg_pairs.specs.bounds.Covering.{IsAmong, all_children, children, distinct}
use Rattle.pg_pairs.specs.graph.Edges.{is_pair}
use Rattle.pg_pairs.specs.graph.Reached.{LeadsTo, IsReachedInOrder, itself, onwards}
use Rattle.pg_pairs.specs.home.Returns.{Returns, becomes_packed, packs}
use Rattle.pg_pairs.proofs.lemmas.graph.ChildSteps.{past}

-- What holds of the root, and of the children of what it holds of, holds of all that the root leads to.
pub led : (kids : Pair → List Pair) (root : Pair) (P : Pair → Type 0) → P root → ((p c : Pair) → P p → IsAmong c (kids p) → P c) → (p : Pair) → LeadsTo kids root p → P p
led kids root P first next p itself = first
led kids root P first next p (onwards above child leads among) = next above child (led kids root P first next above leads) among

-- The pairs that are reached.

none_first : {A : Type 0} (P : A → Bool) (x y : A) (ys : List A) → (list_any P ys ≡ false → IsAmong x ys → P x ≡ false) → (b : Bool) → P y ≡ b → (b || list_any P ys) ≡ false → IsAmong x (y ∷ ys) → P x ≡ false
none_first P x y ys later true is h among = absurd (true≢false h)
none_first P x y ys later false is h among = ⊎_elim (λ same. ap P same ∙ is) (λ rest. later h rest) among

none_at : {A : Type 0} (P : A → Bool) (x : A) (xs : List A) → list_any P xs ≡ false → IsAmong x xs → P x ≡ false
none_at P x [] h among = absurd among
none_at P x (y ∷ ys) h among = none_first P x y ys (none_at P x ys) (P y) refl h among

none_of : {A : Type 0} (P : A → Bool) (Q : A → Type 0) → ((x : A) → Q x → P x ≡ false) → (xs : List A) → AllByRecursion Q xs → list_any P xs ≡ false
none_of P Q each [] h = refl
none_of P Q each (x ∷ xs) h = rw (each x h.0) (none_of P Q each xs h.1)

module _ (old new : Shape) (root : Pair) (pairs : List Pair) (reached : IsReachedInOrder (children old new) root pairs) where
  pub none_packs : list_any (packs old new) pairs ≡ false → Returns old new root
  none_packs none p leads = none_at (packs old new) p pairs none (reached.all p leads)

  pub returning : Returns old new root → list_any (packs old new) pairs ≡ false
  returning returns = none_of (packs old new) (LeadsTo (children old new) root) returns pairs reached.led_to

  pub answers : (b : Bool) → b ≡ list_any (packs old new) pairs → (not b ≡ true) ↔ Returns old new root
  answers true is = ((λ h. absurd (true≢false (sym h))), (λ returns. absurd (true≢false (is ∙ returning returns))))
  answers false is = ((λ yes. none_packs (sym is)), (λ returns. refl))

-- The fields of a pair, as the program goes over them.

any_map : {A B : Type 0} (P : B → Bool) (f : A → B) (xs : List A) → list_any (λ x. P (f x)) xs ≡ list_any P (map f xs)
any_map P f [] = refl
any_map P f (x ∷ xs) = ap (λ b. P (f x) || b) (any_map P f xs)

pub packs_of : (old : Parts) (new : Shape) (pair : Pair) (fs : List Field) → map field_shape fs ≡ fields (shape_of old) pair.old →
    list_any (λ f. becomes_packed (field_shape f) (field_at (fields new pair.new) f.number)) fs ≡ packs (shape_of old) new pair
packs_of old new pair fs is =
    any_map (λ f. becomes_packed f (field_at (fields new pair.new) f.number)) field_shape fs
    ∙ ap (list_any (λ f. becomes_packed f (field_at (fields new pair.new) f.number))) is

pub packs_none : (old : Parts) (new : Shape) (pair : Pair) → type_at old pair.old ≡ None → false ≡ packs (shape_of old) new pair
packs_none old new pair none = search (rules, past)

-- A pair of a type that isn't there has no fields in one of the types.

no_field_packs : (fs gs : List FieldShape) → (fs ≡ []) ⊎ (gs ≡ []) → list_any (λ f. becomes_packed f (field_at gs f.number)) fs ≡ false
no_field_packs fs gs none = ⊎_elim (λ no_old. rw no_old refl) (λ no_new. rw no_new (all_absent fs)) none
  where
    all_absent : (xs : List FieldShape) → list_any (λ (f : FieldShape). becomes_packed f (field_at [] f.number)) xs ≡ false
    all_absent [] = refl
    all_absent (x ∷ xs) = all_absent xs

no_field_leads : (fs gs : List FieldShape) → (fs ≡ []) ⊎ (gs ≡ []) → all_children gs fs ≡ []
no_field_leads fs gs none = ⊎_elim (λ no_old. rw no_old refl) (λ no_new. rw no_new (all_absent fs)) none
  where
    all_absent : (xs : List FieldShape) → all_children [] xs ≡ []
    all_absent [] = refl
    all_absent (x ∷ xs) = all_absent xs

lacks : (old new : Shape) (pair : Pair) → is_pair old new pair ≡ false → (fields old pair.old ≡ []) ⊎ (fields new pair.new ≡ [])
lacks old new pair none = search (rules, nat_lt, true≢false, get_or_past, ltb-false)

pub unknown_returns : (old new : Shape) (root : Pair) → is_pair old new root ≡ false → Returns old new root
unknown_returns old new root none p leads =
    let empty = lacks old new root none in
    let childless : all_children (fields new root.new) (fields old root.old) ≡ [] = no_field_leads (fields old root.old) (fields new root.new) empty in
    let alone : p ≡ root =
    led (children old new) root (λ q. q ≡ root) refl
    (λ q c same among. absurd (subst (λ ps. IsAmong c (distinct ps)) childless (subst (λ r. IsAmong c (children old new r)) same among))) p leads in
    subst (λ q. packs old new q ≡ false) (sym alone) (no_field_packs (fields old root.old) (fields new root.new) empty)
