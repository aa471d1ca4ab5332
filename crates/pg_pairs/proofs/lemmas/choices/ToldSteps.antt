-- Causes as they are told, one field after another.
use Rattle.std.proofs.Common.{◌≡◌, ℕ, suc, ◌+◌, ◌<◌, List, [], ◌∷◌, ◌++◌, map, flat_map, drop, reverse, length, slice_index_or, cond, nat_eq, Option, Some, None, refl, ap, sym, ◌∙◌, add-one, append_assoc, rules}
use Rattle.pg_schema.specs.declared.parts.field.Field.{Field}
use Rattle.pg_schema.specs.declared.parts.Parts.{Parts}
use Rattle.pg_schema.specs.Lookups.{type_at}
use Rattle.pg_schema.specs.Parts.{field_shape, shape_of}
use Rattle.pg_schema.specs.Shape.{Shape, FieldShape}
use Rattle.pg_pairs.specs.declared.choices.choice.Choice.{Choice}
use Rattle.pg_pairs.specs.declared.choices.choice.Pair.{Pair}
use Rattle.pg_pairs.specs.declared.choices.coming.Coming.{Coming}
use Rattle.pg_pairs.specs.views.EnumView.{EnumView}
use Rattle.pg_pairs.specs.choices.Told.{Told, coming, told_at, told_by, told_causes, told_oneof, told_own}
use Rattle.pg_pairs.specs.inner.Coming.{IsGathered}
use Rattle.pg_pairs.specs.choices.NewOneof.{new_oneof}
use Rattle.pg_pairs.proofs.lemmas.choices.OptionSteps.{drop_at}
use Rattle.pg_pairs.proofs.lemmas.graph.ChildSteps.{past}

-- what is told of a field, of what is kept of its new oneof

abbrev pub kept_by : List ℕ → Option Choice → List Told
kept_by ns None = []
kept_by ns (Some c) = record { numbers = ns; choice = c } ∷ []

abbrev pub kept_oneof : ℕ → Option Coming → List Told
kept_oneof number None = []
kept_oneof number (Some kept) = cond (nat_eq kept.first number) (kept_by (reverse kept.numbers.items) kept.choice) []

by_is : (ns : List ℕ) (fs : List FieldShape) (o : Option Choice) → ns ≡ map (λ (f : FieldShape). f.number) fs → told_by fs o ≡ kept_by ns o
by_is ns fs None same = refl
by_is ns fs (Some c) same = ap (λ ms. record { numbers = ms; choice = c } ∷ []) (sym same)

none_come : (gs fs : List FieldShape) → coming gs None fs ≡ []
none_come gs [] = refl
none_come gs (f ∷ fs) = none_come gs fs

module _ (gs fs : List FieldShape) (f : FieldShape) where
  pub none_told : new_oneof gs f ≡ None → told_oneof gs fs f ≡ []
  none_told none = rw (none, none_come gs fs) refl

  pub kept_told : (o : Option Coming) → IsGathered gs (coming gs (new_oneof gs f) fs) o → told_oneof gs fs f ≡ kept_oneof f.number o
  kept_told o is = of (coming gs (new_oneof gs f) fs) o refl is
    where
      of : (cs : List FieldShape) (kept : Option Coming) → coming gs (new_oneof gs f) fs ≡ cs → IsGathered gs cs kept → told_oneof gs fs f ≡ kept_oneof f.number kept
      of [] None row h = rw row refl
      of [] (Some k) row h = absurd h
      of (g ∷ cs) None row h = absurd h
      of (g ∷ cs) (Some k) row h =
          rw (row, h.first, sym h.choice) (ap (λ ts. cond (nat_eq g.number f.number) ts []) (by_is (reverse k.numbers.items) (g ∷ cs) k.choice h.numbers))

-- after the causes of a field come those of the later ones
pub told_after : (enum_view : EnumView) (gs fs : List FieldShape) (list : List Field) (at : ℕ) (f : Field) → at < length list → f ≡ slice_index_or list at f → (now own after total : List Told) →
    now ++ flat_map (told_at enum_view gs fs) (map field_shape (drop at list)) ≡ total → own ≡ now ++ told_own enum_view gs (field_shape f) →
    after ≡ own ++ told_oneof gs fs (field_shape f) → after ++ flat_map (told_at enum_view gs fs) (map field_shape (drop (at + 1) list)) ≡ total
told_after enum_view gs fs list at f inside is now own after total so_far own_is after_is =
    let mine = told_own enum_view gs (field_shape f) in
    let meet = told_oneof gs fs (field_shape f) in
    let rest = flat_map (told_at enum_view gs fs) (map field_shape (drop (suc at) list)) in
    let row = ap (λ xs. flat_map (told_at enum_view gs fs) (map field_shape xs)) (drop_at list at f f inside is) in
    ap (λ n. after ++ flat_map (told_at enum_view gs fs) (map field_shape (drop n list))) (add-one at)
    ∙ ap (λ ts. ts ++ rest) (after_is ∙ ap (λ ts. ts ++ meet) own_is ∙ append_assoc now mine meet) ∙ append_assoc now (mine ++ meet) rest ∙ ap (λ ts. now ++ ts) (sym row) ∙ so_far

pub none_there : (enum_view : EnumView) (old : Parts) (new : Shape) (pair : Pair) → type_at old pair.old ≡ None → told_causes enum_view (shape_of old) new pair ≡ []
none_there enum_view old new pair h = search (rules, past)
