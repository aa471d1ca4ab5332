-- The root types.
use Rattle.std.proofs.Common.{◌<◌, length, map}
use Rattle.std.proofs.lemmas.List.{length-map}
use Rattle.pg_schema.specs.declared.parts.field.TypeId.{TypeId}
use Rattle.pg_schema.specs.declared.parts.message_type.MessageType.{MessageType}
use Rattle.pg_schema.specs.declared.parts.Parts.{Parts}
use Rattle.pg_schema.specs.Parts.{field_shape, shape_of}

-- a type's index is one of the shape
pub type_there : (parts : Parts) (id : TypeId) → id.index < length parts.types.items → id.index < length (shape_of parts)
type_there parts id within = rw (length-map parts.types.items (λ (t : MessageType). map field_shape t.fields.items)) within
