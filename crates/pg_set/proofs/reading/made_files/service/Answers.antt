use Rattle.std.proofs.Common.{◌≡◌, Some, ap, map, option_map, refl, sym, ◌∙◌}
use Rattle.std.proofs.lemmas.Result.{err_from_is_err_and}
use Rattle.pg_dyn.specs.message.Kept.{message_of}
use Rattle.pg_set.specs.inner.reading.OutlinedRows.{row}
use Rattle.pg_set.specs.inner.reading.Owners.{means_of}
use Rattle.pg_set.specs.stated.SetMessages.{children_at}
use Rattle.pg_set.specs.stated.StatedNames.{each, undotted}
use Rattle.pg_set.specs.stated.StatedServices.{method, service_of}
use Rattle.pg_set.proofs.lemmas.lists.Each.{passed}
use Rattle.pg_set.proofs.lemmas.lists.ViewLaws.{same_service}
use Rattle.pg_set.proofs.reading.made_files.service.Goals as goal

pub returns-in_err-methods-clause-refused : goal.returns-in_err-methods-clause-refused
returns-in_err-methods-clause-refused c =
    let o = c.args.outlined.now in
    let m = message_of o.message in
    let inside : map message_of c.deref.result.now ≡ children_at 2 m = ap (λ xs. map message_of xs) c.deref.ensures.value ∙ c.in_ok-inside.ensures in
    let p = err_from_is_err_and c.from_residual-in_err-methods.result c.from_residual-in_err-methods.ensures.1 in
    rw (p.1, p.2)
    (passed _ _ (λ none. ap (option_map (service_of (row o))) (ap (each (method (means_of c.args.names.now))) (sym inside) ∙ none))
    c.in_err-methods.ensures.refused)

pub returns-clause-made : goal.returns-clause-made
returns-clause-made c =
    let o = c.args.outlined.now in
    let inside : map message_of c.deref.result.now ≡ children_at 2 (message_of o.message) = ap (λ xs. map message_of xs) c.deref.ensures.value ∙ c.in_ok-inside.ensures in
    ap (option_map (service_of (row o))) (ap (each (method (means_of c.args.names.now))) (sym inside) ∙ c.in_ok-methods.ensures.made)
    ∙ ap Some (sym (same_service (c.in_ok-name.ensures.ok ∙ (c.undotted.ensures ∙ ap undotted c.as_str.ensures.value)) refl c.option.ensures))
