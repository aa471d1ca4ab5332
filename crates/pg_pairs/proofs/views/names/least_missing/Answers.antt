-- A value is passed over where its number doesn't count, isn't lesser, or isn't missing.
use Rattle.std.proofs.Common.{◌≡◌, ◌+◌, ◌∷◌, SFits, List, Some, map, drop, to_z, of_z, w32, ap, sym, subst, ◌∙◌, rules}
use Rattle.std.proofs.lemmas.Bool.{and_from, and_left, and_right}
use Rattle.std.proofs.lemmas.Int.{to_z-of_z}
use Rattle.pg_dyn.specs.views.ViewNames.{NamedNumber, named}
use Rattle.pg_pairs.specs.views.LeastNumbers.{least_number, lesser_of, number_counts}
use Rattle.pg_pairs.specs.inner.MissingNames.{is_missing, missing_numbers}
use Rattle.pg_pairs.proofs.lemmas.views.LeastByName.{counted_step, left_out_step, next_left, passed_over_step}
use Rattle.pg_pairs.proofs.views.names.least_missing.Goals.{then-counts+then-is_lesser+then-is_missing_beside, then-counts+then-is_lesser+else-is_missing_beside, else-counts, else-counts-via-then-counts+else-is_lesser, else-counts-via-else-counts}
use Rattle.pg_pairs.proofs.views.names.least_missing.Goals as goal

pub loop-value-preserved : goal.loop-value-preserved
loop-value-preserved c =
    let zero = c.args.zero in
    let others = map named c.args.others.now in
    let v = named c.value-item.result in
    let rest = map named (drop (c.loop-value.value-index + 1) c.args.values.now) in
    let before = c.loop-value.least in
    let after = c.if-counts.least in
    let least = λ (vs : List NamedNumber). least_number (missing_numbers zero vs others) in
    let left = next_left zero c.args.values.now others c.loop-value.value-index c.value-item.result before c.loop-value-test.true c.value-item.is in
    let fits : SFits w32 v.number = search rules in
    let same : to_z w32 (of_z w32 v.number) ≡ v.number = to_z-of_z w32 v.number fits in
    let counted : number_counts zero v.number ≡ c.counts.result = ap (number_counts zero) (sym same) ∙ sym c.counts.ensures in
    let step : lesser_of after (least rest) ≡ lesser_of before (least (v ∷ rest)) =
    elim c.if-counts.branch as (λ b. lesser_of after (least rest) ≡ lesser_of before (least (v ∷ rest))) [
      | then-counts+then-is_lesser+then-is_missing_beside w ↦
          ap (λ o. lesser_of o (least rest)) (w.least-is ∙ sym (w.is_lesser.ensures.lesser w.if-is_lesser.true) ∙ ap (λ n. lesser_of before (Some n)) same)
          ∙ counted_step zero v rest others before (and_from (number_counts zero v.number) (is_missing others v) (counted ∙ w.if-counts.true) (sym w.is_missing_beside.ensures ∙ w.if-is_missing_beside.true))
      | then-counts+then-is_lesser+else-is_missing_beside w ↦
          ap (λ o. lesser_of o (least rest)) w.least-is
          ∙ left_out_step zero v rest others before (and_right (number_counts zero v.number) (is_missing others v) (sym w.is_missing_beside.ensures ∙ w.if-is_missing_beside.false))
      | else-counts w ↦
          ap (λ o. lesser_of o (least rest)) w.least-is
          ∙ elim w.else-counts.branch as (λ b. lesser_of before (least rest) ≡ lesser_of before (least (v ∷ rest))) [
            | else-counts-via-then-counts+else-is_lesser u ↦ passed_over_step zero v rest others before (subst (λ n. lesser_of before (Some n) ≡ before) same (u.is_lesser.ensures.other u.if-is_lesser.false))
            | else-counts-via-else-counts u ↦ left_out_step zero v rest others before (and_left (number_counts zero v.number) (is_missing others v) (counted ∙ u.if-counts.false))
          ]
    ] in
    step ∙ sym left ∙ c.loop-value.invariant
