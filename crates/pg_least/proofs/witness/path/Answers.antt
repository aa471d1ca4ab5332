-- The graph is of the certificate's view and of the two schemas.
use Rattle.std.proofs.Common.{◌∙◌, IfOk}
use Rattle.pg_schema.specs.Parts.{shape_of}
use Rattle.pg_cert.specs.Certificate.{bound_in}
use Rattle.pg_cert.proofs.Graphs.{of_graph, to_graph}
use Rattle.pg_least.specs.Searched.{IsSearched, IsPath}
use Rattle.pg_least.proofs.witness.path.Goals as goal

pub path_with-requires-clause-searched : goal.path_with-requires-clause-searched
path_with-requires-clause-searched c =
    to_graph (λ view old new. IsSearched view (shape_of old) (shape_of new) c.args.certificate.now.root c.args.certificate.now) c.new-graph.result
    _ _ _ (c.new-graph.ensures.view ∙ c.view.ensures) c.new-graph.ensures.old c.new-graph.ensures.new c.requires.searched

pub returns : goal.returns
returns c =
    of_graph (λ view old new. IfOk c.path_with.result (λ steps. IsPath view (shape_of old) (shape_of new) (bound_in c.args.certificate.now.bounds) c.args.certificate.now.root steps.items)) c.new-graph.result
    _ _ _ (c.new-graph.ensures.view ∙ c.view.ensures) c.new-graph.ensures.old c.new-graph.ensures.new c.path_with.ensures
