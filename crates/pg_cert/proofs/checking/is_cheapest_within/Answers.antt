use Rattle.std.proofs.Common.{sym, ◌∙◌}
use Rattle.pg_schema.specs.Parts.{shape_of}
use Rattle.pg_pairs.specs.choices.Choices.{choices}
use Rattle.pg_pairs.specs.graph.GraphView.{seen}
use Rattle.pg_cert.specs.Certificate.{bound_in}
use Rattle.pg_cert.proofs.Coverings.{none_cheaper}
use Rattle.pg_cert.proofs.checking.is_cheapest_within.Goals as goal

pub returns-in-Some : goal.returns-in-Some
returns-in-Some c = λ inside.
    let enum_view = seen c.args.graph.now in
    none_cheaper c.args.line.bound (choices enum_view (bound_in c.args.bounds.now) (shape_of c.args.graph.now.old.now) (shape_of c.args.graph.now.new.now) c.args.line.pair) c.in-Some.choice c.cheapest_is_least.ensures (sym c.in_ok-choice.ensures ∙ c.in-Some.is) (sym c.is_within.ensures ∙ inside)
