use Rattle.std.proofs.Common.{◌≡◌, ◌⊎◌, inl, inr, false, subst}
use Rattle.std.proofs.lemmas.Result.{err_from_is_err_and}
use Rattle.std.specs.List.{list_all}
use Rattle.pg_schema.specs.rules.Pairs.{are_distinct}
use Rattle.pg_schema.specs.rules.TextSets.{is_among}
use Rattle.pg_set.specs.declared.error.Unstated.TheVariants as errors
use Rattle.pg_set.specs.inner.Lent.{lent}
use Rattle.pg_set.specs.inner.reading.FilePlaces.{importer, importers, HasNoOrder}
use Rattle.pg_set.specs.stated.PostOrder.{paths_of}
use Rattle.pg_set.proofs.lemmas.order.Ordering.{none_missing}
use Rattle.pg_set.proofs.lemmas.order.OrderSteps.{handed_on, importer_at, imports_twice}
use Rattle.pg_set.proofs.reading.order.all_imported.Goals as goal

pub returns-in_err-are_apart-clause-refused : goal.returns-in_err-are_apart-clause-refused
returns-in_err-are_apart-clause-refused c =
    let files = c.args.files.now in
    let (y, is, same) = err_from_is_err_and c.from_residual-in_err-are_apart.result c.from_residual-in_err-are_apart.ensures.1 in
    handed_on c.from_residual-in_err-are_apart.result (λ e. (e ≡ errors.Memory) ⊎ HasNoOrder (importers files)) c.in_err-are_apart.field-0.0 y is same
    (elim c.in_err-are_apart.ensures.refused [
      | inl memory ↦ inl memory
      | inr twice ↦ inr (inr (inl (imports_twice files c.loop-file.file-index c.file-item.result c.loop-file-test.true c.file-item.is (subst (λ ps. are_distinct (lent ps) ≡ false) c.deref.ensures.value twice))))
    ])

pub returns-in_err-imported-clause-refused : goal.returns-in_err-imported-clause-refused
returns-in_err-imported-clause-refused c =
    let files = c.args.files.now in
    let (y, is, same) = err_from_is_err_and c.from_residual-in_err-imported.result c.from_residual-in_err-imported.ensures.1 in
    handed_on c.from_residual-in_err-imported.result (λ e. (e ≡ errors.Memory) ⊎ HasNoOrder (importers files)) c.in_err-imported.field-0.0 y is same
    (elim c.in_err-imported.ensures.refused [
      | inl memory ↦ inl memory
      | inr missing ↦ inr (inr (inr (none_missing (importers files) c.loop-file.file-index (importer c.file-item.result) c.in_ok-places.ensures.once
          (importer_at files c.loop-file.file-index c.file-item.result c.loop-file-test.true c.file-item.is)
          (subst (λ ps. list_all (is_among (paths_of (importers files))) (lent ps) ≡ false) c.deref-in-loop-file.ensures.value
          (missing (paths_of (importers files)) c.in_ok-places.ensures.index)))))
    ])
