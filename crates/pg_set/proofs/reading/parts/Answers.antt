use Rattle.std.proofs.Common.{◌≡◌, ◌⊎◌, None, Some, inl, inr, map, ◌∙◌}
use Rattle.std.proofs.lemmas.Result.{IfErr-weaker, IfOk-weaker, err_from_is_err_and}
use Rattle.pg_dyn.specs.message.Kept.{message_of}
use Rattle.pg_set.specs.declared.error.Unstated.TheVariants as unstated
use Rattle.pg_set.specs.inner.reading.OutlinedRows.{files_at}
use Rattle.pg_set.specs.stated.Stated.{declared_by}
use Rattle.pg_set.specs.stated.Views.{parts_view}
use Rattle.pg_set.proofs.lemmas.order.OrderSteps.{handed_on}
use Rattle.pg_set.proofs.lemmas.reading.ReadLaws.{none_declared, outline_declares}
use Rattle.pg_set.proofs.reading.parts.Goals as goal

pub returns-in_err-outline-clause-none : goal.returns-in_err-outline-clause-none
returns-in_err-outline-clause-none c =
    let skips = c.args.skips in
    let found = files_at (map message_of c.args.files.now) c.args.order.now in
    let (y, is, same) = err_from_is_err_and c.from_residual.result c.from_residual.ensures.1 in
    handed_on c.from_residual.result (λ e. (e ≡ unstated.Memory) ⊎ (declared_by skips found ≡ None)) c.in_err-outline.field-0.0 y is same
    (none_declared skips found c.in_err-outline.field-0.0 (c.in_err-outline.ensures.none c.requires))

pub returns : goal.returns
returns c =
    let skips = c.args.skips in
    let found = files_at (map message_of c.args.files.now) c.args.order.now in
    let theirs = outline_declares skips found c.in_ok-outline.outline c.in_ok-outline.ensures.outlined c.in_ok-outline.ensures.may c.in_ok-outline.ensures.means in
    record {
      made = IfOk-weaker c.made_parts.result _ (λ made. declared_by skips found ≡ Some (parts_view made)) (λ made is. theirs ∙ is) c.made_parts.ensures.made;
      none = IfErr-weaker c.made_parts.result _ (λ e. (e ≡ unstated.Memory) ⊎ (declared_by skips found ≡ None))
          (λ e refused.
          elim refused [
            | inl memory ↦ inl memory
            | inr none ↦ inr (theirs ∙ none)
          ]) c.made_parts.ensures.refused;
    }
