-- What holds of the graph holds of the view and the schemas that it is made of.
use Rattle.std.proofs.Common.{◌≡◌, ◌∙◌, ◌<◌, Option, length, subst, sym}
use Rattle.pg_schema.specs.declared.parts.Parts.{Parts}
use Rattle.pg_schema.specs.Parts.{shape_of}
use Rattle.pg_dyn.specs.message.Kept.{Kept}
use Rattle.pg_cert.specs.Certificate.{Claim}
use Rattle.pg_cert.proofs.Graphs.{of_graph}
use Rattle.pg_least.specs.Beside.{IsBesideClaim}
use Rattle.pg_least.specs.Searched.{IsSearched, CarriesWitness}
use Rattle.pg_least.proofs.PublicLaws.{named_types_are_there}
use Rattle.pg_pairs.specs.views.EnumView.{EnumView}
use Rattle.pg_pairs.specs.views.NamedView.{seen_under}
use Rattle.pg_gate.specs.answer.Answer.{IsAnswerBy, certificate_of}
use Rattle.pg_gate.specs.answer.ViewAnswer.{IsAnswerUnder}
use Rattle.pg_gate.proofs.lemmas.answer.AnswerLemmas.{answer_with, answered, named_with}
use Rattle.pg_gate.proofs.answer.gate.gate_with.Goals as goal

pub find_with-requires-clause-old_type : goal.find_with-requires-clause-old_type
find_with-requires-clause-old_type c =
    let pair = c.in_ok-pair.pair in
    subst (λ (o : Parts). pair.old.index < length (shape_of o)) (sym c.new-graph.ensures.old)
    (named_types_are_there c.args.old.now c.args.root.now pair.old c.in_ok-pair.ensures.named.old_named)

pub find_with-requires-clause-new_type : goal.find_with-requires-clause-new_type
find_with-requires-clause-new_type c =
    let pair = c.in_ok-pair.pair in
    subst (λ (n : Parts). pair.new.index < length (shape_of n)) (sym c.new-graph.ensures.new)
    (named_types_are_there c.args.new.now c.args.root.now pair.new c.in_ok-pair.ensures.named.new_named)

pub returns-in-Some-clause-answer : goal.returns-in-Some-clause-answer
returns-in-Some-clause-answer c =
    let graph = c.new-graph.result in
    let made = c.new-graph.ensures in
    let view = c.args.view in
    let old = c.args.old.now in
    let new = c.args.new.now in
    let pair = c.in_ok-pair.pair in
    let found = c.in_ok-certificate.field-0 in
    let searched = of_graph (λ (v : EnumView) (o n : Parts). IsSearched v (shape_of o) (shape_of n) pair found.certificate) graph view old new
    made.view made.old made.new c.in_ok-certificate.ensures.searched in
    let beside = of_graph (λ (v : EnumView) (o n : Parts). IsBesideClaim v (shape_of o) (shape_of n) found.certificate found.witness) graph view old new
    made.view made.old made.new c.in_ok-certificate.ensures.witness in
    let named = c.in_ok-certificate.ensures.named ∙ made.view in
    subst (λ (witness : Option Kept). IsAnswerUnder view old new c.args.root.now (answer_with found.certificate witness)) c.in-Some.is (
      named_with view found.certificate found.witness named,
      answered (seen_under view old new) old new c.in_ok-pair.ensures.shapes.0 c.in_ok-pair.ensures.shapes.1 c.args.root.now pair found.certificate found.witness c.in_ok-pair.ensures.named searched beside,
    )

pub returns-in-None-clause-answer : goal.returns-in-None-clause-answer
returns-in-None-clause-answer c =
    let graph = c.new-graph.result in
    let made = c.new-graph.ensures in
    let view = c.args.view in
    let old = c.args.old.now in
    let new = c.args.new.now in
    let pair = c.in_ok-pair.pair in
    let found = c.in_ok-certificate.field-0 in
    let searched = of_graph (λ (v : EnumView) (o n : Parts). IsSearched v (shape_of o) (shape_of n) pair found.certificate) graph view old new
    made.view made.old made.new c.in_ok-certificate.ensures.searched in
    let beside = of_graph (λ (v : EnumView) (o n : Parts). IsBesideClaim v (shape_of o) (shape_of n) found.certificate found.witness) graph view old new
    made.view made.old made.new c.in_ok-certificate.ensures.witness in
    let named = c.in_ok-certificate.ensures.named ∙ made.view in
    subst (λ (witness : Option Kept). IsAnswerUnder view old new c.args.root.now (answer_with found.certificate witness)) c.in-None.is (
      named_with view found.certificate found.witness named,
      answered (seen_under view old new) old new c.in_ok-pair.ensures.shapes.0 c.in_ok-pair.ensures.shapes.1 c.args.root.now pair found.certificate found.witness c.in_ok-pair.ensures.named searched beside,
    )

pub returns-in-Some-clause-carried : goal.returns-in-Some-clause-carried
returns-in-Some-clause-carried c =
    let made = c.new-graph.ensures in
    let found = c.in_ok-certificate.field-0 in
    of_graph (λ (v : EnumView) (o n : Parts). CarriesWitness v (shape_of o) (shape_of n) found.certificate) c.new-graph.result c.args.view c.args.old.now c.args.new.now
    made.view made.old made.new c.in_ok-certificate.ensures.carried

pub returns-in-None-clause-carried : goal.returns-in-None-clause-carried
returns-in-None-clause-carried c =
    let made = c.new-graph.ensures in
    let found = c.in_ok-certificate.field-0 in
    of_graph (λ (v : EnumView) (o n : Parts). CarriesWitness v (shape_of o) (shape_of n) found.certificate) c.new-graph.result c.args.view c.args.old.now c.args.new.now
    made.view made.old made.new c.in_ok-certificate.ensures.carried
