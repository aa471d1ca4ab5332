use Rattle.std.proofs.Common.{sym}
use Rattle.pg_schema.specs.Parts.{field_shape, shape_of}
use Rattle.pg_pairs.proofs.lemmas.graph.EdgeLaws.{number_below}
use Rattle.pg_pairs.proofs.graph.priced.price.Goals as goal

pub one_item-cost-requires-clause-number : goal.one_item-cost-requires-clause-number
one_item-cost-requires-clause-number c =
    number_below (shape_of c.args.old.now) c.parts.ensures.checked.shape c.args.edge.now.from.old c.args.edge.now.number (field_shape c.in_ok-field.field.now) (sym c.in_ok-field.ensures.shape)
