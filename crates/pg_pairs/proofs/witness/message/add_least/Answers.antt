use Rattle.pg_schema.specs.Parts.{shape_of}
use Rattle.pg_pairs.proofs.witness.message.add_least.Goals as goal

pub add-requires-clause-taken : goal.add-requires-clause-taken
add-requires-clause-taken c = c.in_ok-content.ensures.taken (shape_of c.args.schema.now) c.requires.element
