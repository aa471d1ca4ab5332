use Rattle.std.proofs.Common.{ap, ◌∙◌}
use Rattle.pg_set.specs.stated.Views.{parts_view}
use Rattle.pg_set.proofs.lemmas.descriptor.DescriptorShape.{has_its_shape}
use Rattle.pg_set.proofs.lemmas.descriptor.DescriptorSound.{descriptor_is_sound}
use Rattle.pg_set.proofs.descriptor.descriptor_schema.Goals as goal

pub returns-in-Ok-clause-shape : goal.returns-in-Ok-clause-shape
returns-in-Ok-clause-shape c = has_its_shape c.in-Ok.schema (ap parts_view c.in-Ok.ensures.schema ∙ c.in_ok-parts.ensures)

pub unreachable-requires : goal.unreachable-requires
unreachable-requires c =
    c.in-Err-Invariant-default.ensures.broken c.in-Err-Invariant-default.field-0-0-is (descriptor_is_sound c.in_ok-parts.parts c.in_ok-parts.ensures)
