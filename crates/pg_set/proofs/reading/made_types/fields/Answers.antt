use Rattle.std.proofs.Common.{Some, ap, map, option_and_then}
use Rattle.std.proofs.lemmas.Result.{err_from_is_err_and}
use Rattle.std.specs.List.{list_all}
use Rattle.pg_dyn.specs.message.Kept.{message_of}
use Rattle.pg_set.specs.stated.StatedFields.{is_named_once}
use Rattle.pg_set.specs.stated.StatedNames.{only_if}
use Rattle.pg_set.proofs.lemmas.lists.Each.{passed}
use Rattle.pg_set.proofs.reading.made_types.fields.Goals as goal

pub returns-in_err-fields-clause-refused : goal.returns-in_err-fields-clause-refused
returns-in_err-fields-clause-refused c =
    let entries = map message_of c.args.entries.now in
    let p = err_from_is_err_and c.from_residual.result c.from_residual.ensures.1 in
    rw (p.1, p.2) (passed _ _ (λ none. ap (option_and_then (λ fs. only_if (list_all (is_named_once fs) entries) (Some fs))) none) c.in_err-fields.ensures.refused)
