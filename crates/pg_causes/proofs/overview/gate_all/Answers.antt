-- The graph is of the view of that name and of the two schemas.
use Rattle.std.proofs.Common.{IfOk}
use Rattle.pg_cert.proofs.Graphs.{of_graph}
use Rattle.pg_causes.specs.Overview.{IsOverviewBy}
use Rattle.pg_causes.proofs.overview.gate_all.Goals as goal

pub returns : goal.returns
returns c =
    of_graph (λ view old new. IfOk c.overview_of.result (IsOverviewBy view old new)) c.new-graph.result
    _ _ _ c.new-graph.ensures.view c.new-graph.ensures.old c.new-graph.ensures.new c.overview_of.ensures
