use Rattle.std.proofs.Common.{ap, ◌∙◌}
use Rattle.pg_schema.specs.declared.parts.field.Presence.TheVariants.{Repeated}
use Rattle.pg_schema.specs.rules.Fields.{stated_or}
use Rattle.pg_set.proofs.lemmas.written.PresenceLaws.{stated_is}
use Rattle.pg_set.proofs.reading.made_fields.repeated.Goals as goal

pub returns : goal.returns
returns c = ap Repeated (c.unwrap_or-packed.ensures ∙ (stated_is c.args.stated c.is_packable-default.result ∙ ap (stated_or c.args.stated) c.is_packable-default.ensures))
