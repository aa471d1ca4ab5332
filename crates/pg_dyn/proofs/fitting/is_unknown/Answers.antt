use Rattle.std.proofs.Common.{not, ap, sym, ◌∙◌}
use Rattle.pg_schema.specs.Parts.{field_shape}
use Rattle.pg_dyn.specs.message.Seen.{record_seen}
use Rattle.pg_dyn.proofs.lemmas.fitting.FitsChecks.{unknown_by_field, unknown_without_field}
use Rattle.pg_dyn.proofs.fitting.is_unknown.Goals as goal

pub returns-in-Some : goal.returns-in-Some
returns-in-Some c =
    ap not c.accepts.ensures ∙ sym (unknown_by_field c.args.schema.now c.requires c.args.type_id (record_seen c.args.found.now) (field_shape c.in-Some.field.now) c.in-Some.ensures.shape)

pub returns-in-None : goal.returns-in-None
returns-in-None c = sym (unknown_without_field c.args.schema.now c.requires c.args.type_id (record_seen c.args.found.now) c.in-None.ensures.shape)
