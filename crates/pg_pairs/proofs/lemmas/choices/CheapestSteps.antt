-- The choices of a row of fields and the cheapest one, one field before the others.
use Rattle.std.proofs.Common.{◌≡◌, ℕ, ◌-◌, ◌≤◌, List, [], ◌∷◌, ◌++◌, map, length, drop, slice_index_or, Option, None, ap, sym, ◌∙◌, subst, refl, rules}
use Rattle.std.specs.HashMap.{HashMap, IsEmpty}
use Rattle.std.proofs.lemmas.List.{append_assoc}
use Rattle.pg_schema.specs.declared.parts.field.Field.{Field}
use Rattle.pg_schema.specs.Parts.{field_shape}
use Rattle.pg_schema.specs.Shape.{FieldShape, field_at}
use Rattle.pg_dyn.specs.encoding.Encoding.{cap}
use Rattle.pg_pairs.specs.declared.choices.choice.Choice.{Choice}
use Rattle.pg_pairs.specs.declared.choices.least_member.Two.{Two}
use Rattle.pg_pairs.specs.views.EnumView.{EnumView}
use Rattle.pg_pairs.specs.choices.Choices.{Table, choices_beside, joined_choices, all_choices, affordable, cheapest}
use Rattle.pg_pairs.specs.laws.CheapestLaws.{first_of}
use Rattle.pg_pairs.specs.choices.NewOneof.{new_oneof}
use Rattle.pg_pairs.specs.inner.LeastMembers.{member_of, least_member, met_choices, beside, KeepsLeast}
use Rattle.pg_pairs.proofs.lemmas.choices.Cheaper.{same-below, cheapest-within}
use Rattle.pg_pairs.proofs.lemmas.choices.LeastMembers.{cheapest-joined}
use Rattle.pg_pairs.proofs.lemmas.choices.OptionSteps.{affordable-append, drop_at}

-- of a field's choices with later ones the cheapest is enough
pub cheapest_before : (enum_view : EnumView) (table : Table) (gs : List FieldShape) (f : FieldShape) (fs : List FieldShape) →
    first_of (cheapest (affordable (choices_beside enum_view table f (field_at gs f.number)) ++ affordable (met_choices (member_of f) (least_member gs (new_oneof gs f) f.oneof fs)))) (cheapest (affordable (all_choices enum_view table gs fs)))
    ≡ cheapest (affordable (all_choices enum_view table gs (f ∷ fs)))
cheapest_before enum_view table gs f fs =
    let own = choices_beside enum_view table f (field_at gs f.number) in
    let met = met_choices (member_of f) (least_member gs (new_oneof gs f) f.oneof fs) in
    let joined = joined_choices gs f fs in
    let rest = all_choices enum_view table gs fs in
    cheapest-within (affordable own) (affordable met) (affordable joined) (affordable rest) (same-below cap met joined (sym (cheapest-joined gs f fs)))
    ∙ ap cheapest (sym (append_assoc (affordable own) (affordable joined) (affordable rest)) ∙ ap (λ cs. cs ++ affordable rest) (sym (affordable-append own joined)) ∙ sym (affordable-append (own ++ joined) rest))

-- after the last field

pub past_end : {A : Type 0} (xs : List A) → drop (length xs) xs ≡ []
past_end [] = refl
past_end (x ∷ xs) = past_end xs

pub none_at_end : (enum_view : EnumView) (table : Table) (gs : List FieldShape) (list : List Field) → None ≡ cheapest (affordable (all_choices enum_view table gs (map field_shape (drop (length list) list))))
none_at_end enum_view table gs list = sym (ap (λ fs. cheapest (affordable (all_choices enum_view table gs (map field_shape fs)))) (past_end list))

pub kept_at_end : {S : Type 0} (gs : List FieldShape) (list : List Field) (kept : HashMap ℕ Two S) → IsEmpty kept → KeepsLeast gs (map field_shape (drop (length list) list)) kept
kept_at_end gs list kept empty = search (rules, past_end)

-- the step of the loop, which goes down to the index before
module _ (list : List Field) (at : ℕ) (f : Field) (positive : 1 ≤ at) (small : at ≤ length list) (is : f ≡ slice_index_or list (at - 1) f) where
  pub row : field_shape f ∷ map field_shape (drop at list) ≡ map field_shape (drop (at - 1) list)
  row = search (rules, drop_at)

  -- of the row that the field's own choices and the one with the field that it meets make, beside what was found after it
  pub found_before : (enum_view : EnumView) (table : Table) (gs : List FieldShape) (oneof : Option ℕ) (cleared beside after row_after : List Choice) (first later found : Option Choice) →
      later ≡ cheapest (affordable (all_choices enum_view table gs (map field_shape (drop at list)))) → cleared ≡ [] →
      beside ≡ cleared ++ affordable (choices_beside enum_view table (field_shape f) (field_at gs f.number)) → oneof ≡ new_oneof gs (field_shape f) →
      after ≡ beside ++ affordable (met_choices (member_of (field_shape f)) (least_member gs oneof f.oneof (map field_shape (drop at list)))) →
      row_after ≡ after → first ≡ cheapest row_after → found ≡ first_of first later →
      found ≡ cheapest (affordable (all_choices enum_view table gs (map field_shape (drop (at - 1) list))))
  found_before enum_view table gs oneof cleared beside after row_after first later found later_is cleared_is beside_is oneof_is after_is row_is first_is found_is =
      let own = affordable (choices_beside enum_view table (field_shape f) (field_at gs f.number)) in
      let met : Option ℕ → List Choice = λ o. affordable (met_choices (member_of (field_shape f)) (least_member gs o f.oneof (map field_shape (drop at list)))) in
      let made : after ≡ own ++ met (new_oneof gs (field_shape f)) = after_is ∙ ap (λ o. beside ++ met o) oneof_is ∙ ap (λ cs. cs ++ met (new_oneof gs (field_shape f))) (beside_is ∙ ap (λ cs. cs ++ own) cleared_is) in
      let cheapest_is : first ≡ cheapest (own ++ met (new_oneof gs (field_shape f))) = first_is ∙ ap cheapest (row_is ∙ made) in
      found_is ∙ ap (λ o. first_of o later) cheapest_is ∙ ap (first_of (cheapest (own ++ met (new_oneof gs (field_shape f))))) later_is
      ∙ cheapest_before enum_view table gs (field_shape f) (map field_shape (drop at list)) ∙ ap (λ fs. cheapest (affordable (all_choices enum_view table gs fs))) row

  pub kept_before : {S : Type 0} (gs : List FieldShape) (kept : HashMap ℕ Two S) → KeepsLeast gs (field_shape f ∷ map field_shape (drop at list)) kept → KeepsLeast gs (map field_shape (drop (at - 1) list)) kept
  kept_before gs kept h = subst (λ fs. KeepsLeast gs fs kept) row h
