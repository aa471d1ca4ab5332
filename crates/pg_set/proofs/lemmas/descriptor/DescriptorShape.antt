-- Parts that say what descriptor.proto is written down to declare have its shape.
use Rattle.std.proofs.Common.{◌≡◌, List, map, refl, ap, ◌∙◌}
use Rattle.pg_schema.specs.declared.parts.message_type.MessageType.{MessageType}
use Rattle.pg_schema.specs.declared.parts.Parts.{Parts}
use Rattle.pg_schema.specs.Parts.{field_shape, shape_of}
use Rattle.pg_schema.specs.Shape.{FieldShape}
use Rattle.pg_set.specs.descriptor.Descriptor.{descriptor_shape}
use Rattle.pg_set.specs.descriptor.DescriptorParts.{descriptor_parts, descriptor_types}
use Rattle.pg_set.specs.stated.Views.{FieldView, PartsView, TypeView, field_view, parts_view, type_view}
use Rattle.pg_set.proofs.lemmas.descriptor.DescriptorOpened.{opened}
use Rattle.pg_set.proofs.lemmas.lists.Seen.{map_seen}

abbrev shape_seen : FieldView → FieldShape
shape_seen v = record { number = v.number; presence = v.presence; element = v.element; oneof = v.oneof }

abbrev fields_seen : TypeView → List FieldShape
fields_seen v = map shape_seen v.fields

its_shape : map fields_seen descriptor_types ≡ descriptor_shape
unfolding opened
its_shape = refl

pub has_its_shape : (parts : Parts) → parts_view parts ≡ descriptor_parts → shape_of parts ≡ descriptor_shape
has_its_shape parts same =
    map_seen type_view (λ (t : MessageType). map field_shape t.fields.items) fields_seen
    (λ t. map_seen field_view field_shape shape_seen (λ f. refl) t.fields.items) parts.types.items
    ∙ (ap (λ (v : PartsView). map fields_seen v.types) same ∙ its_shape)
