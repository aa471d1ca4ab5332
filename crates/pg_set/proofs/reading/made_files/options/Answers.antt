use Rattle.std.proofs.Common.{◌≡◌, [], ap, map, option_map, sym, ◌∙◌}
use Rattle.std.proofs.lemmas.Result.{IfOk-weaker}
use Rattle.std.specs.Option.{unwrap_or}
use Rattle.pg_dyn.specs.message.Kept.{message_of}
use Rattle.pg_dyn.specs.message.Message.{ends}
use Rattle.pg_set.specs.stated.SetMessages.{options_at}
use Rattle.pg_set.specs.stated.StatedFiles.{options_under}
use Rattle.pg_set.specs.stated.FileMessages.{option_places}
use Rattle.pg_set.specs.stated.Views.{option_view}
use Rattle.pg_set.proofs.reading.made_files.options.Goals as goal

pub returns-in-Some : goal.returns-in-Some
returns-in-Some c =
    let own : options_at 8 (message_of c.args.message.now) ≡ message_of c.in-Some.child =
    sym c.own_options-own.ensures ∙ ap (λ o. unwrap_or (option_map message_of o) (ends [])) c.in-Some.is in
    IfOk-weaker c.options_under.result _ _ (λ made is. is ∙ ap (λ m. options_under m option_places) (sym own)) c.options_under.ensures

pub returns-in-None : goal.returns-in-None
returns-in-None c =
    let none : options_at 8 (message_of c.args.message.now) ≡ ends [] =
    sym c.own_options-own.ensures ∙ ap (λ o. unwrap_or (option_map message_of o) (ends [])) c.in-None.is in
    ap (map option_view) c.new.ensures.items ∙ ap (λ m. options_under m option_places) (sym none)
