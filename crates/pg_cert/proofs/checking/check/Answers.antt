-- The graph is of the certificate's view and of the two schemas.
use Rattle.std.proofs.Common.{◌∙◌}
use Rattle.pg_schema.specs.Parts.{shape_of}
use Rattle.pg_cert.specs.inner.Checked.{IsChecked}
use Rattle.pg_cert.proofs.Graphs.{of_graph}
use Rattle.pg_cert.proofs.checking.check.Goals as goal

pub returns-clause-holds : goal.returns-clause-holds
returns-clause-holds c =
    (of_graph (λ view old new. IsChecked view (shape_of old) (shape_of new) c.args.certificate.now c.check_claim.result) c.new-graph.result
    _ _ _ (c.new-graph.ensures.view ∙ c.view.ensures) c.new-graph.ensures.old c.new-graph.ensures.new c.check_claim.ensures).holds

pub returns-clause-says : goal.returns-clause-says
returns-clause-says c =
    (of_graph (λ view old new. IsChecked view (shape_of old) (shape_of new) c.args.certificate.now c.check_claim.result) c.new-graph.result
    _ _ _ (c.new-graph.ensures.view ∙ c.view.ensures) c.new-graph.ensures.old c.new-graph.ensures.new c.check_claim.ensures).says

pub returns-clause-first_fault : goal.returns-clause-first_fault
returns-clause-first_fault c =
    (of_graph (λ view old new. IsChecked view (shape_of old) (shape_of new) c.args.certificate.now c.check_claim.result) c.new-graph.result
    _ _ _ (c.new-graph.ensures.view ∙ c.view.ensures) c.new-graph.ensures.old c.new-graph.ensures.new c.check_claim.ensures).first_fault

pub returns-clause-refused : goal.returns-clause-refused
returns-clause-refused c =
    (of_graph (λ view old new. IsChecked view (shape_of old) (shape_of new) c.args.certificate.now c.check_claim.result) c.new-graph.result
    _ _ _ (c.new-graph.ensures.view ∙ c.view.ensures) c.new-graph.ensures.old c.new-graph.ensures.new c.check_claim.ensures).refused
