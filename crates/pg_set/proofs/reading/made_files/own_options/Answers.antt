use Rattle.std.proofs.Common.{ap, option_map, sym, ◌∙◌}
use Rattle.pg_dyn.specs.message.Kept.{message_of}
use Rattle.pg_set.specs.inner.reading.SetItems.{said}
use Rattle.pg_set.proofs.lemmas.reading.MadeOptions.{options_found, options_missing}
use Rattle.pg_set.proofs.reading.made_files.own_options.Goals as goal

pub returns-in-Some : goal.returns-in-Some
returns-in-Some c =
    options_found (message_of c.args.message.now) (said c.in-Some.value) (option_map message_of c.child_in.result)
    (sym c.item-found.ensures ∙ ap (λ o. option_map said o) c.in-Some.is) c.child_in.ensures

pub returns-in-None : goal.returns-in-None
returns-in-None c = sym (options_missing (message_of c.args.message.now) (sym c.item-found.ensures ∙ ap (λ o. option_map said o) c.in-None.is))
