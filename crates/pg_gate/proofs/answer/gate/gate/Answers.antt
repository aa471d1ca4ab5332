-- The view by numbers compares enums by their numbers.
use Rattle.std.proofs.Common.{◌≡◌, IfOk, subst}
use Rattle.pg_dyn.specs.declared.view_name.ViewName.TheVariants as views
use Rattle.pg_schema.specs.Parts.{shape_of}
use Rattle.pg_least.specs.Searched.{CarriesWitness}
use Rattle.pg_gate.specs.answer.Answer.{IsAnswerBy, certificate_of}
use Rattle.pg_gate.proofs.answer.gate.gate.Goals as goal

pub returns-clause-answer : goal.returns-clause-answer
returns-clause-answer c =
    subst (λ enum_view. IfOk c.gate_with.result (λ answer. ((certificate_of answer).view ≡ views.Numbers) × IsAnswerBy enum_view c.args.old.now c.args.new.now c.args.root.now answer))
    (c.numbers_are_alike.ensures c.args.old.now c.args.new.now) c.gate_with.ensures.answer

pub returns-clause-carried : goal.returns-clause-carried
returns-clause-carried c =
    subst (λ enum_view. IfOk c.gate_with.result (λ answer. CarriesWitness enum_view (shape_of c.args.old.now) (shape_of c.args.new.now) (certificate_of answer)))
    (c.numbers_are_alike.ensures c.args.old.now c.args.new.now) c.gate_with.ensures.carried
