use Rattle.std.proofs.Common.{ap, map, ◌≡◌, ◌⊎◌, ◌∙◌, inl, inr, None}
use Rattle.std.proofs.lemmas.Result.{err_from_is_err_and}
use Rattle.pg_dyn.specs.message.Kept.{message_of}
use Rattle.pg_set.specs.declared.error.Unstated.TheVariants as errors
use Rattle.pg_set.specs.inner.reading.FilePlaces.{importers}
use Rattle.pg_set.specs.stated.StatedOrder.{in_post_order}
use Rattle.pg_set.proofs.lemmas.order.OrderSteps.{handed_on}
use Rattle.pg_set.proofs.lemmas.order.StatedOrder.{none_ordered, walk_within, walked}
use Rattle.pg_set.proofs.reading.order.order.Goals as goal

pub returns-in_err-imported-clause-none : goal.returns-in_err-imported-clause-none
returns-in_err-imported-clause-none c =
    let (y, is, same) = err_from_is_err_and c.from_residual-in_err-imported.result c.from_residual-in_err-imported.ensures.1 in
    handed_on c.from_residual-in_err-imported.result (λ e. (e ≡ errors.Memory) ⊎ (in_post_order c.args.skips (map message_of c.args.files.now) ≡ None)) c.in_err-imported.field-0.0 y is same
    (elim c.in_err-imported.ensures.refused [
      | inl memory ↦ inl memory
      | inr none ↦ inr (none_ordered c.args.skips c.args.files.now (importers c.deref.result.now) (ap importers c.deref.ensures.value ∙ c.in_ok-found.ensures) none)
    ])

pub post_order-requires : goal.post_order-requires
post_order-requires c =
    walk_within c.args.skips c.args.files.now (importers c.deref.result.now) (ap importers c.deref.ensures.value ∙ c.in_ok-found.ensures) c.deref-2.result.now
    c.in_ok-imported.imported.items c.deref-2.ensures.value c.in_ok-imported.ensures.once c.in_ok-imported.ensures.ok

pub returns : goal.returns
returns c =
    let (within, ordered, none) = walked c.args.skips c.args.files.now (importers c.deref.result.now) (ap importers c.deref.ensures.value ∙ c.in_ok-found.ensures) c.deref-2.result.now
    c.in_ok-imported.imported.items c.deref-2.ensures.value c.in_ok-imported.ensures.once c.in_ok-imported.ensures.ok c.in_ok-imported.ensures.imports_once c.post_order.result c.post_order.ensures.ok
    c.post_order.ensures.refused in
    record { within = within; in_order = ordered; none = none }
