use Rattle.std.proofs.lemmas.Result.{IfOk-weaker}
use Rattle.pg_schema.specs.Parts.{shape_of}
use Rattle.pg_pairs.specs.graph.GraphView.{seen}
use Rattle.pg_least.proofs.Exactness.{bounds_are}
use Rattle.pg_least.proofs.several.bounds_from.Goals as goal

pub returns-clause-bounds : goal.returns-clause-bounds
returns-clause-bounds c =
    IfOk-weaker c.settle_from.result _ _
    (λ found settled. bounds_are (seen c.args.graph.now) (shape_of c.args.graph.now.old.now) (shape_of c.args.graph.now.new.now) c.args.roots.now found.0
    c.least_costs_are_exact.ensures c.least_costs_by_edges.ensures c.exact_is_least.ensures c.none_is_compatible.ensures
    c.sees.ensures c.parts.ensures.checked.shape c.parts-2.ensures.checked.shape settled)
    c.settle_from.ensures.settled
