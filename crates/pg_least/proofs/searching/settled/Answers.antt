use Rattle.std.proofs.lemmas.Result.{IfOk-weaker}
use Rattle.pg_schema.specs.Parts.{shape_of}
use Rattle.pg_pairs.proofs.lemmas.graph.EdgeLaws.{is_there}
use Rattle.pg_pairs.specs.graph.GraphView.{seen}
use Rattle.pg_least.proofs.Exactness.{settled_is_exact}
use Rattle.pg_least.proofs.searching.settled.Goals as goal

pub settle-requires : goal.settle-requires
settle-requires c = is_there (shape_of c.args.graph.now.old.now) (shape_of c.args.graph.now.new.now) c.args.root c.requires.old_type c.requires.new_type

pub returns-clause-table : goal.returns-clause-table
returns-clause-table c =
    IfOk-weaker c.settle.result _ _
    (λ found settled. settled_is_exact (seen c.args.graph.now) (shape_of c.args.graph.now.old.now) (shape_of c.args.graph.now.new.now) c.args.root found.0
    c.least_costs_are_exact.ensures c.least_costs_by_edges.ensures c.parts.ensures.checked.shape settled)
    c.settle.ensures.settled
