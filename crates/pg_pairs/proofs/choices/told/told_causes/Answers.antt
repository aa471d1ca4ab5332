use Rattle.std.proofs.Common.{map, ap, sym, ◌∙◌}
use Rattle.pg_schema.specs.Parts.{field_shape, shape_of}
use Rattle.pg_pairs.specs.choices.Told.{told_of}
use Rattle.pg_pairs.specs.graph.GraphView.{seen}
use Rattle.pg_pairs.proofs.lemmas.choices.OptionSteps.{numbers_fit}
use Rattle.pg_pairs.proofs.lemmas.choices.ToldSteps.{none_there}
use Rattle.pg_pairs.proofs.choices.told.told_causes.Goals as goal

pub told_of_fields-requires : goal.told_of_fields-requires
told_of_fields-requires c = numbers_fit c.args.graph.now.old.now c.args.pair.old _ c.parts.ensures.checked.shape (ap (map field_shape) c.deref.ensures.value ∙ c.in-Some.ensures.fields)

pub returns-in-None : goal.returns-in-None
returns-in-None c =
    ap (map told_of) c.new.ensures.items ∙ sym (none_there (seen c.args.graph.now) c.args.graph.now.old.now (shape_of c.args.graph.now.new.now) c.args.pair (sym c.in-None.ensures.exact))
