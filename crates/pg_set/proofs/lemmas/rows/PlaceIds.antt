-- The indices of message types, enums and services are what their ids hold.
use Rattle.std.proofs.Common.{◌≡◌, List, [], ◌∷◌, map, refl, ap}
use Rattle.pg_schema.specs.declared.parts.field.EnumId.{EnumId}
use Rattle.pg_schema.specs.declared.parts.field.TypeId.{TypeId}
use Rattle.pg_schema.specs.declared.parts.service.ServiceId.{ServiceId}
use Rattle.pg_schema.specs.rules.Scopes.{enum_places, service_places, type_places}
use Rattle.pg_set.specs.stated.StatedFiles.{service_id}
use Rattle.pg_set.specs.descriptor.Descriptor.{enum_id, type_id}

pub types_of_places : (ids : List TypeId) → map type_id (type_places ids) ≡ ids
types_of_places [] = refl
types_of_places (id ∷ ids) = ap (λ xs. id ∷ xs) (types_of_places ids)

pub enums_of_places : (ids : List EnumId) → map enum_id (enum_places ids) ≡ ids
enums_of_places [] = refl
enums_of_places (id ∷ ids) = ap (λ xs. id ∷ xs) (enums_of_places ids)

pub services_of_places : (ids : List ServiceId) → map service_id (service_places ids) ≡ ids
services_of_places [] = refl
services_of_places (id ∷ ids) = ap (λ xs. id ∷ xs) (services_of_places ids)
