use Rattle.std.proofs.Common.{SFits, ap, rules, ◌∙◌}
use Rattle.std.proofs.lemmas.Int.{to_z-of_z}
use Rattle.std.specs.Int.{w128}
use Rattle.std.specs.String.{string_bytes}
use Rattle.pg_set.specs.stated.Views.{value_of}
use Rattle.pg_set.proofs.lemmas.reading.OptionItems.{number_said, text_said}
use Rattle.pg_set.proofs.reading.made_files.option_value.Goals as goal

pub returns-in-Number : goal.returns-in-Number
returns-in-Number c =
    let fits : SFits w128 c.number_in.result = search rules in
    ap value_of c.numbered.ensures ∙ number_said c.args.number c.args.item.now _ c.in-Number.is _ (to_z-of_z w128 c.number_in.result fits ∙ c.number_in.ensures)

pub returns : goal.returns
returns c = text_said c.args.number c.args.item.now c.in_default.not-Number (string_bytes c.in_ok-own.own) (c.in_ok-own.ensures.ok ∙ c.text_in-found.ensures)
