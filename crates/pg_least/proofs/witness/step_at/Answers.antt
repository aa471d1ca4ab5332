use Rattle.std.proofs.Common.{sym, ◌∙◌}
use Rattle.pg_schema.specs.Parts.{shape_of}
use Rattle.pg_pairs.specs.graph.GraphView.{seen}
use Rattle.pg_cert.specs.Certificate.{bound_in}
use Rattle.pg_least.proofs.Descents.{cheapest_step, never_none}
use Rattle.pg_least.proofs.witness.step_at.Goals as goal

pub unreachable-requires : goal.unreachable-requires
unreachable-requires c =
    let enum_view = seen c.args.graph.now in
    never_none enum_view (shape_of c.args.graph.now.old.now) (shape_of c.args.graph.now.new.now) (bound_in c.args.bounds.now) c.requires.exact c.cheapest_is_least.ensures c.args.pair c.requires.number (sym c.in_ok-choice.ensures ∙ c.in-None.is)

pub returns-clause-step : goal.returns-clause-step
returns-clause-step c =
    let enum_view = seen c.args.graph.now in
    cheapest_step enum_view (shape_of c.args.graph.now.old.now) (shape_of c.args.graph.now.new.now) (bound_in c.args.bounds.now) c.requires.exact c.cheapest_is_least.ensures c.args.pair c.requires.number c.in-Some.choice (sym c.in_ok-choice.ensures ∙ c.in-Some.is)
