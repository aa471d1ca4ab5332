use Rattle.std.proofs.Common.{sym}
use Rattle.pg_schema.specs.Parts.{field_shape, shape_of}
use Rattle.pg_schema.specs.Shape.{fields}
use Rattle.pg_dyn.proofs.PublicLaws.{fields_are_found}
use Rattle.pg_pairs.proofs.lemmas.witness.carried.CarryContents.{element_there}
use Rattle.pg_pairs.proofs.witness.message.field_there.Goals as goal

pub returns-clause-own : goal.returns-clause-own
returns-clause-own c = fields_are_found.1 (fields (shape_of c.args.schema.now) c.args.type_id) c.args.number (field_shape c.in-Some.field.now) (sym c.in-Some.ensures.shape)

pub returns-clause-element : goal.returns-clause-element
returns-clause-element c = element_there (shape_of c.args.schema.now) c.parts.ensures.checked.shape c.args.type_id c.args.number (field_shape c.in-Some.field.now) (sym c.in-Some.ensures.shape)
