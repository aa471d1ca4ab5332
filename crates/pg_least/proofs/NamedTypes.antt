-- The types that have names.
use Rattle.std.proofs.Common.{◌≡◌, map, Option, Some, None, string_bytes}
use Rattle.std.specs.Option.{option_map}
use Rattle.std.proofs.lemmas.List.{length-map}
use Rattle.std.proofs.lemmas.Option.{slice_get_within}
use Rattle.pg_schema.specs.declared.parts.message_type.MessageType.{MessageType}
use Rattle.pg_schema.specs.Parts.{field_shape}
use Rattle.pg_least.specs.laws.LossLaws.{NamedTypesAreThere}

from_some : {X Y : Type 0} (f : X → Y) (o : Option X) (y : Y) → option_map f o ≡ Some y → (x : X) × (o ≡ Some x)
from_some f None y mapped = absurd (cc)
from_some f (Some x) y mapped = (x, cc)

-- a type that has a name is there
pub named_there : NamedTypesAreThere
named_there parts name id named =
    let found = from_some (λ (t : MessageType). string_bytes t.name) _ name named in
    rw (length-map parts.types.items (λ (t : MessageType). map field_shape t.fields.items)) (slice_get_within parts.types.items id.index found.0 found.1)
