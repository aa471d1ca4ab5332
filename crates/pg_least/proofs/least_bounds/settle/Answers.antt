use Rattle.std.proofs.lemmas.Result.{IfOk-weaker}
use Rattle.pg_least.proofs.least_bounds.settle.Goals as goal

pub returns-clause-settled : goal.returns-clause-settled
returns-clause-settled g c =
    IfOk-weaker c.settle_from.result _ _
    (λ found settled. record { reached = c.from_one_root.ensures (g.G.Prices.children_of c.args.graph.now) c.args.root _ settled.reached; least = settled.least })
    c.settle_from.ensures.settled
