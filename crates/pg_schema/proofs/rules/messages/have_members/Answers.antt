use Rattle.std.proofs.Common.{ap, ◌∙◌}
use Rattle.std.specs.List.{list_all}
use Rattle.pg_schema.proofs.lemmas.rules.MessageLemmas.{flags_are}
use Rattle.pg_schema.proofs.rules.messages.have_members.Goals as goal

pub returns : goal.returns
returns c =
    c.are_set.ensures ∙ (ap (list_all (λ flag. flag)) c.deref.ensures.value ∙ flags_are c.args.fields.now c.args.oneofs c.in_ok-marks.marks.items c.in_ok-marks.ensures)
