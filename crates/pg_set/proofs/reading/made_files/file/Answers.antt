use Rattle.std.proofs.Common.{◌≡◌, Some, ap, rules, sym, ◌∙◌}
use Rattle.std.proofs.lemmas.List.Elements.{same_from_all_zip}
use Rattle.std.proofs.lemmas.Result.{err_from_is_err_and}
use Rattle.pg_set.specs.inner.reading.OutlinedPlaces.{placed_file}
use Rattle.pg_set.specs.stated.StatedFiles.{file_of}
use Rattle.pg_set.specs.stated.StatedNames.{only_if}
use Rattle.pg_set.proofs.lemmas.reading.FileItems.{file_refused, imports_made}
use Rattle.pg_set.proofs.lemmas.rows.PlaceIds.{enums_of_places, services_of_places, types_of_places}
use Rattle.pg_set.proofs.lemmas.outline.Outlining.{same_file}
use Rattle.pg_set.proofs.reading.made_files.file.Goals as goal

pub returns-in_err-imports-clause-refused : goal.returns-in_err-imports-clause-refused
returns-in_err-imports-clause-refused c =
    let p = err_from_is_err_and c.from_residual-in_err-imports.result c.from_residual-in_err-imports.ensures.1 in
    rw (p.1, p.2) (file_refused c.args.skips c.args.outlined.now _ c.in_err-imports.ensures.refused)

pub returns-clause-made : goal.returns-clause-made
returns-clause-made c =
    let o = c.args.outlined.now in
    let types : c.in_ok-types.types.items ≡ o.types.items = search (rules, same_from_all_zip) in
    let enums : c.in_ok-enums.enums.items ≡ o.enums.items = search (rules, same_from_all_zip) in
    let services : c.in_ok-services.services.items ≡ o.services.items = search (rules, same_from_all_zip) in
    ap (λ b. only_if b (Some (file_of c.args.skips (placed_file o)))) c.in_ok-imports.ensures.places
    ∙ ap Some (sym (same_file (c.in_ok-name.ensures.ok ∙ c.text-own_name.ensures) (c.in_ok-package.ensures.ok ∙ c.text-own_package.ensures)
    (imports_made c.in_ok-imports.imports.items _ c.in_ok-imports.ensures.made)
    (types ∙ sym (types_of_places o.types.items)) (enums ∙ sym (enums_of_places o.enums.items)) (services ∙ sym (services_of_places o.services.items)) c.in_ok-options.ensures))
