-- Indices in order of declaration, by small examples.
use Rattle.std.specs.Prelude.{◌≡◌, [], ◌∷◌, flat_map}
use Rattle.pg_schema.specs.declared.parts.field.Field.{Field}
use Rattle.pg_schema.specs.declared.parts.file.File.{File}
use Rattle.pg_schema.specs.declared.parts.message_type.MessageType.{MessageType}
use Rattle.pg_schema.specs.declared.parts.Parts.{Parts}
use Rattle.pg_schema.specs.standing.InOrder.{StandInOrder, enums_below, file_enums, types_below}
use Rattle.pg_set.specs.descriptor.Descriptor.{enum_id, type_id}
use Rattle.pg_set.specs.examples.Examples.{AreParts, IsMessage}
use Rattle.pg_set.specs.round_trip.Readable.{IsReadAgain}

-- a message type with another inside it, and one after them
pub record AreNested (outer inner last : MessageType) : Type 0 where
  pub outside : outer.nested_types.items ≡ type_id 1 ∷ []
  pub inside : inner.nested_types.items ≡ []
  pub behind : last.nested_types.items ≡ []

abbrev pub TypesInOrder : Type 0
TypesInOrder =
    (outer inner last : MessageType) → AreNested outer inner last
    → types_below 3 (outer ∷ inner ∷ last ∷ []) (type_id 0 ∷ type_id 2 ∷ []) ≡ 0 ∷ 1 ∷ 2 ∷ []

-- an enum in each of the two: that of the outer one comes first
abbrev pub EnumsInOrder : Type 0
EnumsInOrder =
    (outer inner last : MessageType) → AreNested outer inner last → outer.nested_enums.items ≡ enum_id 0 ∷ []
    → inner.nested_enums.items ≡ enum_id 1 ∷ [] → last.nested_enums.items ≡ []
    → enums_below 3 (outer ∷ inner ∷ last ∷ []) (type_id 0 ∷ type_id 2 ∷ []) ≡ 0 ∷ 1 ∷ []

-- a file with one message type
abbrev pub OneFieldInOrder : Type 0
OneFieldInOrder =
    (parts : Parts) (file : File) (t : MessageType) (a : Field) → AreParts parts file t → IsMessage t (a ∷ []) (1 ∷ [])
    → parts.enums.items ≡ [] → parts.services.items ≡ []
    → StandInOrder parts

-- whose set is read as the same schema
abbrev pub OneFieldAgain : Type 0
OneFieldAgain =
    (parts : Parts) (file : File) (t : MessageType) (a : Field) → AreParts parts file t → IsMessage t (a ∷ []) (1 ∷ [])
    → parts.enums.items ≡ [] → parts.services.items ≡ []
    → IsReadAgain parts

-- ---- an enum that comes after the message types

-- `message M { enum E { .. } } enum F { .. }`: F comes first, as the package declares it
pub record IsPackageFirst (parts : Parts) (file : File) (t : MessageType) : Type 0 where
  pub files : parts.files.items ≡ file ∷ []
  pub types : parts.types.items ≡ t ∷ []
  pub file_types : file.types.items ≡ type_id 0 ∷ []
  pub file_enums : file.enums.items ≡ enum_id 0 ∷ []
  pub none_inside : t.nested_types.items ≡ []
  pub inner_enum : t.nested_enums.items ≡ enum_id 1 ∷ []

abbrev pub PackageEnumsFirst : Type 0
PackageEnumsFirst =
    (parts : Parts) (file : File) (t : MessageType) → IsPackageFirst parts file t
    → flat_map (file_enums parts.types.items) parts.files.items ≡ 0 ∷ 1 ∷ []

pub record WorkedPlaces : Type 0 where
  pub types : TypesInOrder
  pub enums : EnumsInOrder
  pub one_field : OneFieldInOrder
  pub again : OneFieldAgain
  pub package_first : PackageEnumsFirst
