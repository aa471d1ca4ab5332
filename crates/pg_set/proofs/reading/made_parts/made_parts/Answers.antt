use Rattle.std.proofs.Common.{Some, ap, map, sym, ◌∙◌}
use Rattle.std.proofs.lemmas.Result.{err_from_is_err_and}
use Rattle.pg_set.specs.inner.reading.OutlinedPlaces.{placed_file, placed_type}
use Rattle.pg_set.specs.inner.reading.OutlinedRows.{row}
use Rattle.pg_set.specs.inner.reading.Owners.{means_of}
use Rattle.pg_set.specs.stated.Stated.{parts_of}
use Rattle.pg_set.specs.stated.StatedEnums.{enum_type}
use Rattle.pg_set.specs.stated.StatedFiles.{file}
use Rattle.pg_set.specs.stated.StatedNames.{each}
use Rattle.pg_set.specs.stated.StatedServices.{service}
use Rattle.pg_set.specs.stated.StatedTypes.{message_type}
use Rattle.pg_set.specs.stated.Views.{file_view, service_view, type_view}
use Rattle.pg_set.proofs.lemmas.lists.Each.{passed}
use Rattle.pg_set.proofs.lemmas.rows.PartsMade.{files_missing, parts_there, services_missing, types_missing}
use Rattle.pg_set.proofs.reading.made_parts.made_parts.Goals as goal

pub returns-in_err-files-clause-refused : goal.returns-in_err-files-clause-refused
returns-in_err-files-clause-refused c =
    let p = err_from_is_err_and c.from_residual.result c.from_residual.ensures.1 in
    rw (p.1, p.2)
    (passed _ _ (λ none. files_missing _ _ _ _ (ap (λ os. each (file c.args.skips) (map placed_file os)) (sym c.deref.ensures.value) ∙ none))
    c.in_err-files.ensures.refused)

pub returns-in_err-types-clause-refused : goal.returns-in_err-types-clause-refused
returns-in_err-types-clause-refused c =
    let p = err_from_is_err_and c.from_residual-in_err-types.result c.from_residual-in_err-types.ensures.1 in
    rw (p.1, p.2)
    (passed _ _ (λ none. types_missing _ _ _ _ (ap (λ os. each (message_type (means_of c.args.outline.now.names)) (map placed_type os)) (sym c.deref-2.ensures.value) ∙ none))
    c.in_err-types.ensures.refused)

pub returns-in_err-services-clause-refused : goal.returns-in_err-services-clause-refused
returns-in_err-services-clause-refused c =
    let p = err_from_is_err_and c.from_residual-in_err-services.result c.from_residual-in_err-services.ensures.1 in
    rw (p.1, p.2)
    (passed _ _ (λ none. services_missing _ _ _ _ (ap (λ os. each (service (means_of c.args.outline.now.names)) (map row os)) (sym c.deref-4.ensures.value) ∙ none))
    c.in_err-services.ensures.refused)

pub returns-clause-made : goal.returns-clause-made
returns-clause-made c =
    parts_there _ (map enum_type (map row c.args.outline.now.enums.items)) _ _ (map type_view c.in_ok-types.types.items) (map service_view c.in_ok-services.services.items) (map file_view c.in_ok-files.files.items)
    (ap (λ os. each (file c.args.skips) (map placed_file os)) (sym c.deref.ensures.value) ∙ c.in_ok-files.ensures.made)
    (ap (λ os. each (message_type (means_of c.args.outline.now.names)) (map placed_type os)) (sym c.deref-2.ensures.value) ∙ c.in_ok-types.ensures.made)
    (ap (λ os. each (service (means_of c.args.outline.now.names)) (map row os)) (sym c.deref-4.ensures.value) ∙ c.in_ok-services.ensures.made)
    ∙ ap (λ es. Some (parts_of (map type_view c.in_ok-types.types.items) es (map service_view c.in_ok-services.services.items) (map file_view c.in_ok-files.files.items)))
    (sym (c.in_ok-enums.ensures ∙ ap (λ os. map enum_type (map row os)) c.deref-3.ensures.value))
