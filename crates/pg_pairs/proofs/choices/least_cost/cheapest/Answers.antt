use Rattle.std.proofs.Common.{map, ap, sym, ◌∙◌}
use Rattle.pg_schema.specs.Parts.{field_shape, shape_of}
use Rattle.pg_pairs.specs.choices.Choices.{cheapest}
use Rattle.pg_pairs.specs.graph.GraphView.{seen}
use Rattle.pg_pairs.proofs.lemmas.choices.OptionSteps.{numbers_fit, no_choices}
use Rattle.pg_pairs.proofs.choices.least_cost.cheapest.Goals as goal

pub cheapest_of-requires : goal.cheapest_of-requires
cheapest_of-requires g c = numbers_fit c.args.graph.now.old.now c.args.pair.old _ c.parts.ensures.checked.shape (ap (map field_shape) c.deref.ensures.value ∙ c.in-Some.ensures.fields)

pub returns-in-None : goal.returns-in-None
returns-in-None g c =
    sym
    (ap cheapest (no_choices (seen c.args.graph.now) (g.T.Table.bounds c.args.table.now) c.args.graph.now.old.now (shape_of c.args.graph.now.new.now) c.args.pair (sym c.in-None.ensures.exact)))
