use Rattle.std.proofs.Common.{[], ◌∷◌, ◌++◌, sym, ◌∙◌}
use Rattle.pg_schema.specs.Parts.{shape_of}
use Rattle.pg_pairs.specs.graph.GraphView.{seen}
use Rattle.pg_least.specs.inner.Descent.{first_step}
use Rattle.pg_least.proofs.Descents.{innermost, last_round, next_round, outermost, round}
use Rattle.pg_least.proofs.witness.built.Goals as goal

pub carry-requires : goal.carry-requires
carry-requires c =
    let enum_view = seen c.args.graph.now in
    let (table, whole) = c.requires in
    let old = shape_of c.args.graph.now.old.now in
    let new = shape_of c.args.graph.now.new.now in
    let here = last_round enum_view old new table c.args.steps.items c.args.last whole in
    record { choice = (here.table, here.among); child = here.given }

pub loop-step-init : goal.loop-step-init
loop-step-init c =
    let enum_view = seen c.args.graph.now in
    let (table, whole) = c.requires in
    let here = last_round enum_view (shape_of c.args.graph.now.old.now) (shape_of c.args.graph.now.new.now) table c.args.steps.items c.args.last whole in
    innermost enum_view (shape_of c.args.graph.now.old.now) (shape_of c.args.graph.now.new.now) table c.args.steps.items c.args.last c.in_ok-message.message whole c.in_ok-message.ensures.fits c.in_ok-message.ensures.type_is (c.in_ok-message.ensures.reached here.table here.among here.reached) c.in_ok-message.ensures.made

pub carry-requires-in-Some : goal.carry-requires-in-Some
carry-requires-in-Some c =
    let enum_view = seen c.args.graph.now in
    let old = shape_of c.args.graph.now.old.now in
    let new = shape_of c.args.graph.now.new.now in
    let first = first_step c.args.steps.items c.args.last in
    let here = next_round enum_view old new first c.in-Some.step (c.args.steps.items ++ c.args.last ∷ []) c.pop.new.self.items c.loop-step.steps.items c.loop-step.message c.loop-step.invariant c.in-Some.ensures.items in
    record { choice = (here.table, here.among); child = here.given }

pub loop-step-preserved : goal.loop-step-preserved
loop-step-preserved c =
    let enum_view = seen c.args.graph.now in
    let here = next_round enum_view (shape_of c.args.graph.now.old.now) (shape_of c.args.graph.now.new.now) (first_step c.args.steps.items c.args.last) c.in-Some.step (c.args.steps.items ++ c.args.last ∷ []) c.pop.new.self.items c.loop-step.steps.items c.loop-step.message c.loop-step.invariant c.in-Some.ensures.items in
    round enum_view (shape_of c.args.graph.now.old.now) (shape_of c.args.graph.now.new.now) (first_step c.args.steps.items c.args.last) c.in-Some.step (c.args.steps.items ++ c.args.last ∷ []) c.pop.new.self.items c.loop-step.steps.items c.loop-step.message c.in_ok-message-2.message c.loop-step.invariant c.in-Some.ensures.items c.in_ok-message-2.ensures.fits c.in_ok-message-2.ensures.type_is (c.in_ok-message-2.ensures.reached here.table here.among here.reached) c.in_ok-message-2.ensures.made

pub returns-clause-along : goal.returns-clause-along
returns-clause-along c =
    let enum_view = seen c.args.graph.now in
    outermost enum_view (shape_of c.args.graph.now.old.now) (shape_of c.args.graph.now.new.now) (first_step c.args.steps.items c.args.last) (c.args.steps.items ++ c.args.last ∷ []) c.loop-step.steps.items c.loop-step.message (sym c.loop-step.steps.ok.0 ∙ c.in_default.ensures.cases.0) c.loop-step.invariant
