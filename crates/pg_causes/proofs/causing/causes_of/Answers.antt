use Rattle.std.proofs.Common.{map, ap, ◌∙◌}
use Rattle.pg_schema.specs.Parts.{shape_of}
use Rattle.pg_pairs.specs.choices.Told.{told_of}
use Rattle.pg_pairs.specs.graph.GraphView.{seen}
use Rattle.pg_causes.specs.Causes.{in_pair}
use Rattle.pg_causes.proofs.Going.{each_told, map_map}
use Rattle.pg_causes.proofs.causing.causes_of.Goals as goal

pub causes_told-requires : goal.causes_told-requires
causes_told-requires c =
    each_told (seen c.args.graph.now) (shape_of c.args.graph.now.old.now) (shape_of c.args.graph.now.new.now) c.args.pair c.in_ok-told.told.items c.causes_are_told.ensures c.in_ok-told.ensures

pub returns-clause-are : goal.returns-clause-are
returns-clause-are c =
    c.in_ok-list.ensures.are ∙ map_map told_of (in_pair c.args.pair) c.in_ok-told.told.items ∙ ap (map (in_pair c.args.pair)) c.in_ok-told.ensures
