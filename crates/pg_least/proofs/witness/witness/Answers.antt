use Rattle.std.proofs.Common.{◌∙◌, ap}
use Rattle.std.proofs.lemmas.Result.{IfOk-weaker}
use Rattle.pg_schema.specs.Parts.{shape_of}
use Rattle.pg_dyn.specs.message.Kept.{message_of}
use Rattle.pg_pairs.specs.declared.choices.choice.Pair.{Pair}
use Rattle.pg_pairs.specs.graph.GraphView.{seen}
use Rattle.pg_cert.specs.Certificate.{bound_in}
use Rattle.pg_least.proofs.Descents.{carried_from, reached_there}
use Rattle.pg_least.proofs.witness.witness.Goals as goal

pub returns-clause-along : goal.returns-clause-along
returns-clause-along c =
    let enum_view = seen c.args.graph.now in
    IfOk-weaker c.built.result _ _
    (λ m along. carried_from enum_view (shape_of c.args.graph.now.old.now) (shape_of c.args.graph.now.new.now) (bound_in c.args.bounds.now) c.args.pair c.in_ok-steps.steps.items c.in_ok-steps.last (message_of m)
    c.in_ok-steps.ensures.whole c.in_ok-steps.ensures.first along)
    c.built.ensures.along

pub returns-clause-type_is : goal.returns-clause-type_is
returns-clause-type_is c = IfOk-weaker c.built.result _ _ (λ m is. is ∙ ap (λ (p : Pair). p.old) c.in_ok-steps.ensures.first) c.built.ensures.type_is

pub returns-clause-reached : goal.returns-clause-reached
returns-clause-reached c =
    let enum_view = seen c.args.graph.now in
    IfOk-weaker c.built.result _ _
    (λ m reached. reached_there enum_view (shape_of c.args.graph.now.old.now) (shape_of c.args.graph.now.new.now) (bound_in c.args.bounds.now) c.args.pair c.in_ok-steps.steps.items c.in_ok-steps.last (message_of m)
    c.in_ok-steps.ensures.whole.path c.in_ok-steps.ensures.first reached)
    c.built.ensures.reached
