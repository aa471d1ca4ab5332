-- The fields that come into one new oneof: one more before the others.
use Rattle.std.proofs.Common.{◌≡◌, ℕ, ◌-◌, ◌≤◌, List, [], ◌∷◌, ◌++◌, map, reverse, length, drop, slice_index_or, Bool, true, false, cond, nat_eq, Option, Some, None, refl, ap, ap₂, sym, ◌∙◌, subst, eqb-true, eq-eqb, rules}
use Rattle.std.specs.HashMap.{HashMap, get, IsEmpty, Updates, UpdatesBy}
use Rattle.std.proofs.lemmas.List.{reverse-append}
use Rattle.pg_schema.specs.declared.parts.field.Field.{Field}
use Rattle.pg_schema.specs.Parts.{field_shape}
use Rattle.pg_schema.specs.Shape.{FieldShape}
use Rattle.pg_dyn.specs.encoding.Encoding.{cap}
use Rattle.pg_pairs.specs.declared.choices.choice.Choice.{Choice}
use Rattle.pg_pairs.specs.declared.choices.coming.Coming.{Coming}
use Rattle.pg_pairs.specs.choices.Choices.{affordable, cheapest, joined_choices}
use Rattle.pg_pairs.specs.choices.Told.{coming, meetings}
use Rattle.pg_pairs.specs.inner.Coming.{AreGathered, Gathers, IsGathered, choice_kept, numbers_kept}
use Rattle.pg_pairs.specs.inner.LeastMembers.{member_of, least_member, met_choices}
use Rattle.pg_pairs.specs.choices.NewOneof.{new_oneof}
use Rattle.pg_pairs.specs.laws.CheapestLaws.{first_of}
use Rattle.pg_pairs.proofs.lemmas.choices.Cheaper.{cheapest-append, same-below}
use Rattle.pg_pairs.proofs.lemmas.choices.LeastMembers.{cheapest-joined, joins_is, turned}
use Rattle.pg_pairs.proofs.lemmas.choices.CheapestSteps.{past_end, row}
use Rattle.pg_pairs.proofs.lemmas.choices.OptionSteps.{affordable-append}

-- a field joins only those that come into its new oneof
pub joined-coming : (gs : List FieldShape) (a : FieldShape) (fs : List FieldShape) → joined_choices gs a (coming gs (new_oneof gs a) fs) ≡ joined_choices gs a fs
joined-coming gs a [] = refl
joined-coming gs a (b ∷ fs) = search (rules, joined-coming gs a fs, joins_is)

-- the cheapest choice with one of them
pub cheapest_met : (gs : List FieldShape) (a : FieldShape) (fs : List FieldShape) → cheapest (affordable (met_choices (member_of a) (least_member gs (new_oneof gs a) a.oneof fs))) ≡ cheapest (affordable (joined_choices gs a fs))
cheapest_met gs a fs = same-below cap (met_choices (member_of a) (least_member gs (new_oneof gs a) a.oneof fs)) (joined_choices gs a fs) (sym (cheapest-joined gs a fs))

module _ (gs : List FieldShape) (f : FieldShape) (fs : List FieldShape) where
  -- with the field before the others of its new oneof
  gathers : (kept : Option Coming) (now : Coming) (number : ℕ) (choice : Option Choice) → IsGathered gs (coming gs (new_oneof gs f) fs) kept → number ≡ f.number → choice ≡ cheapest (affordable (joined_choices gs f fs))
      → now.first ≡ number → now.numbers.items ≡ numbers_kept kept ++ number ∷ [] → now.choice ≡ first_of choice (choice_kept kept) → Gathers gs f (coming gs (new_oneof gs f) fs) now
  gathers kept now number choice is number_is choice_is first numbers cheap = of (coming gs (new_oneof gs f) fs) kept refl is numbers cheap
    where
      joined : List FieldShape → List Choice
      joined = λ cs. affordable (joined_choices gs f cs)

      one_of : (cs : List FieldShape) (rest : Option Choice) → coming gs (new_oneof gs f) fs ≡ cs → rest ≡ cheapest (affordable (meetings gs cs)) → now.choice ≡ first_of choice rest → now.choice ≡ cheapest (affordable (meetings gs (f ∷ cs)))
      one_of cs rest cs_is rest_is now_is =
          now_is ∙ ap₂ first_of (choice_is ∙ ap (λ xs. cheapest (affordable xs)) (sym (joined-coming gs f fs) ∙ ap (joined_choices gs f) cs_is)) rest_is
          ∙ sym (cheapest-append (joined cs) (affordable (meetings gs cs))) ∙ ap cheapest (sym (affordable-append (joined_choices gs f cs) (meetings gs cs)))

      of : (cs : List FieldShape) (o : Option Coming) → coming gs (new_oneof gs f) fs ≡ cs → IsGathered gs cs o → now.numbers.items ≡ numbers_kept o ++ number ∷ [] → now.choice ≡ first_of choice (choice_kept o) → Gathers gs f cs now
      of [] None cs_is is_kept ns c = record { first = first ∙ number_is; numbers = ap reverse ns ∙ ap (λ n. n ∷ []) number_is; choice = one_of [] None cs_is refl c }
      of [] (Some k) cs_is is_kept ns c = absurd is_kept
      of (g ∷ cs) None cs_is is_kept ns c = absurd is_kept
      of (g ∷ cs) (Some k) cs_is is_kept ns c = record {
        first = first ∙ number_is;
        numbers = ap reverse ns ∙ reverse-append k.numbers.items (number ∷ []) ∙ ap₂ (λ n ms. n ∷ ms) number_is is_kept.numbers;
        choice = one_of (g ∷ cs) k.choice cs_is is_kept.choice c;
      }

  module _ {S : Type 0} (kept : HashMap ℕ Coming S) (are : AreGathered gs fs kept) where
    -- a field that comes into none
    pub none_gathered : new_oneof gs f ≡ None → AreGathered gs (f ∷ fs) kept
    none_gathered none q = rw none (are q)

    -- one that comes into a new oneof
    pub one_gathered : (oneof number : ℕ) (choice : Option Choice) (now : Coming) (between after : HashMap ℕ Coming S) → new_oneof gs f ≡ Some oneof → number ≡ f.number → choice ≡ cheapest (affordable (joined_choices gs f fs))
        → UpdatesBy nat_eq (nat_eq oneof) kept between None → Updates nat_eq between after oneof (Some now)
        → now.first ≡ number → now.numbers.items ≡ numbers_kept (get nat_eq kept oneof) ++ number ∷ [] → now.choice ≡ first_of choice (choice_kept (get nat_eq kept oneof)) → AreGathered gs (f ∷ fs) after
    one_gathered oneof number choice now between after comes number_is choice_is taken put first numbers cheap q = of (nat_eq oneof q) refl
      where
        here : Gathers gs f (coming gs (Some oneof) fs) now
        here = subst (λ o. Gathers gs f (coming gs o fs) now) comes (gathers (get nat_eq kept oneof) now number choice (subst (λ o. IsGathered gs (coming gs o fs) (get nat_eq kept oneof)) (sym comes) (are oneof)) number_is choice_is first numbers cheap)

        of : (b : Bool) → nat_eq oneof q ≡ b → IsGathered gs (coming gs (Some q) (f ∷ fs)) (get nat_eq after q)
        of true same =
            let at : oneof ≡ q = eqb-true oneof q same in
            let found : get nat_eq after q ≡ Some now = put.0 q ∙ ap (λ b. cond b (Some now) (get nat_eq between q)) same in
            let row : coming gs (Some q) (f ∷ fs) ≡ f ∷ coming gs (Some q) fs = rw (comes, eq-eqb q oneof (sym at)) refl in
            rw (row, found) (subst (λ n. Gathers gs f (coming gs (Some n) fs) now) at here)
        of false apart =
            let found : get nat_eq after q ≡ get nat_eq kept q = put.0 q ∙ ap (λ b. cond b (Some now) (get nat_eq between q)) apart ∙ taken.0 q ∙ ap (λ b. cond b None (get nat_eq kept q)) apart in
            let row : coming gs (Some q) (f ∷ fs) ≡ coming gs (Some q) fs = rw (comes, turned oneof q false apart) refl in
            rw (row, found) (are q)

-- the step of the loop, which goes down to the index before
pub gathered_before : {S : Type 0} (gs : List FieldShape) (list : List Field) (at : ℕ) (f : Field) (kept : HashMap ℕ Coming S) → 1 ≤ at → at ≤ length list → f ≡ slice_index_or list (at - 1) f → AreGathered gs (field_shape f ∷ map field_shape (drop at list)) kept → AreGathered gs (map field_shape (drop (at - 1) list)) kept
gathered_before gs list at f kept positive small is h = subst (λ fs. AreGathered gs fs kept) (row list at f positive small is) h

pub gathered_at_end : {S : Type 0} (gs : List FieldShape) (list : List Field) (kept : HashMap ℕ Coming S) → IsEmpty kept → AreGathered gs (map field_shape (drop (length list) list)) kept
gathered_at_end gs list kept empty = search (rules, past_end)
