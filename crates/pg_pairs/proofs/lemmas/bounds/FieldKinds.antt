-- Two fields side by side: of one kind, of unlike kinds, or maps; and their choices.
use Rattle.std.proofs.Common.{◌≡◌, ℕ, [], ◌∷◌, Bool, true, false, not, ◌&&◌, ◌||◌, if◌then◌else◌, Option, Some, None, is_some, ◌⊎◌, inl, inr, ⊎_elim, refl, ap, sym, ◌∙◌, subst, subst₂}
use Rattle.std.proofs.lemmas.Bool.{and_parts, not-true}
use Rattle.pg_schema.specs.declared.parts.field.Scalar.{Scalar}
use Rattle.pg_schema.specs.declared.parts.field.Element.{Element}
use Rattle.pg_schema.specs.declared.parts.field.Element.TheVariants as elements
use Rattle.pg_schema.specs.declared.parts.field.Presence.{Presence}
use Rattle.pg_schema.specs.declared.parts.field.Presence.TheVariants as presences
use Rattle.pg_schema.specs.Shape.{FieldShape, is_implicit, is_map, is_singular}
use Rattle.pg_dyn.specs.message.Message.{Leaf, Plain, is_zero}
use Rattle.pg_dyn.specs.fitting.Belonging.{MayBeZero}
use Rattle.pg_dyn.specs.views.Comparison.{Alike, Kept, Comparand}
use Rattle.pg_pairs.specs.declared.choices.case.Case.{Case}
use Rattle.pg_pairs.specs.declared.choices.case.Case.TheVariants as cases
use Rattle.pg_pairs.specs.declared.choices.choice.Choice.{Choice}
use Rattle.pg_pairs.specs.views.EnumView.{EnumView}
use Rattle.pg_pairs.specs.bounds.Covering.{IsAmong}
use Rattle.pg_pairs.specs.choices.Choices.{choice, choice_of, choices_by, field_choices, map_key, no_bounds, unlike_cost, zero_counts}
use Rattle.pg_pairs.specs.choices.Costs.{least_content}
use Rattle.pg_pairs.specs.choices.Ways.{AreMaps, are_alike, are_unlike, have_like_entries, is_shown}
use Rattle.pg_pairs.specs.gaps.Likeness.{like}
use Rattle.pg_pairs.specs.gaps.TrueGaps.{ItemCounts}
use Rattle.pg_pairs.specs.inner.Contents.{HoldsItem}
use Rattle.pg_pairs.proofs.lemmas.choices.Offers.{like_choices, like_map_choices}
use Rattle.pg_pairs.proofs.lemmas.gaps.GapItems.{IsLeafy}

-- Fields side by side.

pub no_map : (p : Presence) → not (is_map p) ≡ true → map_key p ≡ None
no_map presences.Implicit h = refl
no_map presences.Explicit h = refl
no_map (presences.Repeated packed) h = refl
no_map (presences.Map k) h = absurd (cc)

pub map_there : (p : Presence) → is_map p ≡ is_some (map_key p)
map_there presences.Implicit = refl
map_there presences.Explicit = refl
map_there (presences.Repeated packed) = refl
map_there (presences.Map k) = refl

pub record AreLike (f g : FieldShape) : Type 0 where
  pub old_key : map_key f.presence ≡ None
  pub new_key : map_key g.presence ≡ None
  pub is_like : like f.element g.element ≡ true

pub alike_parts : (f g : FieldShape) → are_alike f g ≡ true → AreLike f g
alike_parts f g h =
    let first = and_parts (not (is_map f.presence)) (not (is_map g.presence) && like f.element g.element) h in
    let second = and_parts (not (is_map g.presence)) (like f.element g.element) first.1 in
    record { old_key = no_map f.presence first.0; new_key = no_map g.presence second.0; is_like = second.1 }

-- Any two fields are unlike, or alike, or maps.

map_is : (p : Presence) → is_map p ≡ true → (k : Scalar) × (p ≡ presences.Map k)
map_is presences.Implicit h = absurd (cc)
map_is presences.Explicit h = absurd (cc)
map_is (presences.Repeated packed) h = absurd (cc)
map_is (presences.Map k) h = (k, refl)

abbrev pub Kind : FieldShape → FieldShape → Type 0
Kind f g = (are_unlike f g ≡ true) ⊎ ((are_alike f g ≡ true) ⊎ AreMaps f g)

pub kind_of : (f g : FieldShape) → Kind f g
kind_of f g = of (is_map f.presence) (is_map g.presence) (like f.element g.element) refl refl refl
  where
    of : (a b c : Bool) → is_map f.presence ≡ a → is_map g.presence ≡ b → like f.element g.element ≡ c → Kind f g
    of true true c is_f is_g is_c =
        let (k, old_is) = map_is f.presence is_f in
        let (l, new_is) = map_is g.presence is_g in
        inr (inr (record { old_key = k; new_key = l; old_is = old_is; new_is = new_is }))
    of true false c is_f is_g is_c = inl (rw (is_f, is_g) refl)
    of false true c is_f is_g is_c = inl (rw (is_f, is_g) refl)
    of false false true is_f is_g is_c = inr (inl (rw (is_f, is_g, is_c) refl))
    of false false false is_f is_g is_c = inl (rw (is_f, is_g, is_c) refl)

module _ (enum_view : EnumView) where
  pub alike_choices : (f g : FieldShape) → AreLike f g → field_choices enum_view no_bounds f g ≡ like_choices enum_view no_bounds f g
  alike_choices f g a = rw (a.old_key, a.new_key, a.is_like) refl

  pub unlike_choices : (f g : FieldShape) → are_unlike f g ≡ true → field_choices enum_view no_bounds f g ≡ choice f.number cases.Unlike 0 (unlike_cost f g) ∷ []
  unlike_choices f g unlike = of (map_key f.presence) (map_key g.presence) refl refl
    where
      by_keys : (k l : Option Scalar) → map_key f.presence ≡ k → map_key g.presence ≡ l → (if is_some k then not (is_some l) else is_some l || not (like f.element g.element)) ≡ true
      by_keys k l is_k is_l =
          subst (λ o. (if is_some k then not (is_some o) else is_some o || not (like f.element g.element)) ≡ true) is_l
          (subst (λ o. (if is_some o then not (is_some (map_key g.presence)) else is_some (map_key g.presence) || not (like f.element g.element)) ≡ true) is_k
          (subst (λ b. (if is_some (map_key f.presence) then not b else b || not (like f.element g.element)) ≡ true) (map_there g.presence)
          (subst (λ b. (if b then not (is_map g.presence) else is_map g.presence || not (like f.element g.element)) ≡ true) (map_there f.presence) unlike)))

      of : (k l : Option Scalar) → map_key f.presence ≡ k → map_key g.presence ≡ l → field_choices enum_view no_bounds f g ≡ choice f.number cases.Unlike 0 (unlike_cost f g) ∷ []
      of (Some k) (Some l) is_k is_l = absurd (let no : false ≡ true = by_keys (Some k) (Some l) is_k is_l in cc)
      of (Some k) None is_k is_l = rw (is_k, is_l) refl
      of None (Some l) is_k is_l = rw (is_k, is_l) refl
      of None None is_k is_l =
          let apart : like f.element g.element ≡ false = not-true (like f.element g.element) (by_keys None None is_k is_l) in
          rw (is_k, is_l, apart) refl

  pub map_choices_are : (f g : FieldShape) (maps : AreMaps f g) → have_like_entries maps ≡ true → field_choices enum_view no_bounds f g ≡ like_map_choices enum_view no_bounds f g maps.old_key maps.new_key
  map_choices_are f g maps alike = subst₂ (λ (p q : Option Scalar). of p q) (sym (ap map_key maps.old_is)) (sym (ap map_key maps.new_is)) (rw alike refl)
    where
      of : Option Scalar → Option Scalar → Type 0
      of p q = choices_by enum_view no_bounds f g p q ≡ like_map_choices enum_view no_bounds f g maps.old_key maps.new_key

  pub unlike_map_choices : (f g : FieldShape) (maps : AreMaps f g) → have_like_entries maps ≡ false → field_choices enum_view no_bounds f g ≡ choice f.number cases.Map 0 (least_content f) ∷ []
  unlike_map_choices f g maps unlike = subst₂ (λ (p q : Option Scalar). of p q) (sym (ap map_key maps.old_is)) (sym (ap map_key maps.new_is)) (rw unlike refl)
    where
      of : Option Scalar → Option Scalar → Type 0
      of p q = choices_by enum_view no_bounds f g p q ≡ choice f.number cases.Map 0 (least_content f) ∷ []

-- an item that is shown counts
pub counts_by : (p q : Presence) (zero : Bool) → not ((is_singular p && is_singular q && (is_implicit p || is_implicit q)) && zero) ≡ true → (is_implicit p ≡ true → zero ≡ false) → not (is_implicit p || (is_singular p && is_singular q && is_implicit q)) ≡ false → zero ≡ false
counts_by presences.Implicit q zero shown may hidden = may refl
counts_by presences.Explicit presences.Implicit zero shown may hidden = not-true zero shown
counts_by presences.Explicit presences.Explicit zero shown may hidden = absurd (cc)
counts_by presences.Explicit (presences.Repeated w) zero shown may hidden = absurd (cc)
counts_by presences.Explicit (presences.Map l) zero shown may hidden = absurd (cc)
counts_by (presences.Repeated w) q zero shown may hidden = absurd (cc)
counts_by (presences.Map k) q zero shown may hidden = absurd (cc)

pub may_zero : (p : Presence) (leaf : Leaf) → MayBeZero p leaf → is_implicit p ≡ true → is_zero leaf ≡ false
may_zero presences.Implicit leaf h is = h
may_zero presences.Explicit leaf h is = absurd (cc)
may_zero (presences.Repeated w) leaf h is = absurd (cc)
may_zero (presences.Map k) leaf h is = absurd (cc)

pub counts_so : (zero : Bool) (leaf : Leaf) → (zero ≡ false → is_zero leaf ≡ false) → ItemCounts zero leaf
counts_so true leaf h = tt
counts_so false leaf h = h refl

pub item_counts : (f g : FieldShape) (leaf : Leaf) → is_shown f g (Plain leaf) ≡ true → MayBeZero f.presence leaf → ItemCounts (zero_counts f g) leaf
item_counts f g leaf shown may = counts_so (zero_counts f g) leaf (counts_by f.presence g.presence (is_zero leaf) shown (may_zero f.presence leaf may))

-- what is offered
pub chosen : (number : ℕ) (case : Case) (part : ℕ) (o : Option ℕ) (c : Choice) → IsAmong c (choice_of number case part o) → (c.number ≡ number) × (c.case ≡ case) × (c.part ≡ part)
chosen number case part None c h = absurd h
chosen number case part (Some n) c h = ⊎_elim (λ same. (ap (λ (d : Choice). d.number) same, ap (λ (d : Choice). d.case) same, ap (λ (d : Choice). d.part) same)) (λ no. absurd no) h

pub leafy_of : (e : Element) (c : Comparand) (leaf : Leaf) → HoldsItem e c → c.expected ≡ Alike leaf → IsLeafy e
leafy_of (elements.Message t) c leaf (bytes, test, w, so) is = absurd (let no : Kept test ≡ Alike leaf = sym so ∙ is in cc)
leafy_of (elements.Scalar s) c leaf h is = tt
leafy_of (elements.Enum s) c leaf h is = tt
