use Rattle.pg_schema.specs.Parts.{field_shape, shape_of}
use Rattle.pg_pairs.proofs.lemmas.witness.SetTypes.{type_set}
use Rattle.pg_pairs.proofs.witness.message.add.Goals as goal
use Rattle.pg_pairs.proofs.witness.message.add.Goals.{in-Ok, in-Err}

pub put-requires-clause-content : goal.put-requires-clause-content
put-requires-clause-content c =
    record { field = field_shape c.args.field.now; found = c.requires.found; items = c.requires.taken.0; once = c.requires.taken.1 }

pub returns-clause-type_is : goal.returns-clause-type_is
returns-clause-type_is c =
    elim c.match-put.branch [
      | in-Ok w ↦
          rw w.result-is (type_set (shape_of c.args.schema.now) c.args.field.now.number c.args.content c.args.message.now c.put.new.self w.in-Ok.ensures.ok)
      | in-Err w ↦ rw w.result-is tt
    ]
