-- A content of a field that is there.
use Rattle.std.proofs.Common.{sym}
use Rattle.pg_schema.specs.Parts.{field_shape, shape_of}
use Rattle.pg_dyn.proofs.lemmas.setting.ContentChecks.{no_such_field, content_lowest}
use Rattle.pg_dyn.proofs.setting.check.check_content.Goals as goal

pub returns-in_default-clause-err : goal.returns-in_default-clause-err
returns-in_default-clause-err c = no_such_field (shape_of c.args.schema.now) c.args.type_id c.args.number c.args.content.now c.in_default.ensures.shape

pub returns-in-Err-clause-err : goal.returns-in-Err-clause-err
returns-in-Err-clause-err c = content_lowest (shape_of c.args.schema.now) c.args.type_id c.args.number c.args.content.now (field_shape c.in-Some.field.now) (sym c.in-Some.ensures.shape) c.in-Err.error c.in-Err.ensures.0
