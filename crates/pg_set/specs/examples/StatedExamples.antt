-- What small sets state.
use Rattle.std.specs.Prelude.{◌≡◌, ℕ, List, [], ◌∷◌, map, codes, true, false, Option, Some, None, option_map}
use Rattle.pg_schema.specs.declared.parts.field.Element.{Element}
use Rattle.pg_schema.specs.declared.parts.field.Element.TheVariants as elements
use Rattle.pg_schema.specs.declared.parts.field.Presence.TheVariants as presences
use Rattle.pg_schema.specs.declared.parts.field.Scalar.TheVariants as scalars
use Rattle.pg_schema.specs.declared.parts.field.TypeId.{TypeId}
use Rattle.pg_dyn.specs.message.Message.{Message}
use Rattle.pg_set.specs.declared.descriptor.proto.TheConstants as proto
use Rattle.pg_set.specs.examples.Words.{child, count, nothing, text}
use Rattle.pg_set.specs.stated.Stated.{stated}
use Rattle.pg_set.specs.stated.Views.{EnumView, FieldView, FileView, MethodView, PartsView, ServiceView, TypeView}

-- a field of that name, number, label and type, with what comes after
abbrev field : (name : List ℕ) → (number label type : ℕ) → Message → Message
field name number label type later =
    text proto.FIELD_NAME name (count proto.FIELD_NUMBER number (count proto.FIELD_LABEL label (count proto.FIELD_TYPE type later)))

-- a file in proto3 with what comes before
abbrev proto3 : Message
proto3 = text proto.FILE_SYNTAX (codes "proto3") nothing

-- ---- a map field and an `optional` one

-- `message M { map<string, int32> a = 1; optional int32 b = 2; }`
abbrev map_entry : Message
map_entry =
    text proto.MESSAGE_NAME (codes "AEntry") (
    child proto.MESSAGE_FIELD (field (codes "key") 1 1 9 nothing) (
    child proto.MESSAGE_FIELD (field (codes "value") 2 1 5 nothing) (
    child proto.MESSAGE_OPTIONS (count proto.MESSAGE_MAP_ENTRY 1 nothing) nothing)))

abbrev map_set : Message
map_set =
    child proto.SET_FILE (text proto.FILE_NAME (codes "m.proto") (child proto.FILE_MESSAGE_TYPE (
    text proto.MESSAGE_NAME (codes "M") (
    child proto.MESSAGE_FIELD (field (codes "a") 1 3 11 (text proto.FIELD_TYPE_NAME (codes ".M.AEntry") nothing)) (
    child proto.MESSAGE_FIELD (field (codes "b") 2 1 5 (count proto.FIELD_ONEOF_INDEX 0 (count proto.FIELD_PROTO3_OPTIONAL 1 nothing))) (
    child proto.MESSAGE_NESTED_TYPE map_entry (
    child proto.MESSAGE_ONEOF_DECL (text proto.ONEOF_NAME (codes "_b") nothing) nothing))))
    ) proto3)) nothing

abbrev map_type : TypeView
map_type = record {
  name = codes "M";
  fields =
      record { number = 1; name = codes "a"; presence = presences.Map scalars.String; element = elements.Scalar scalars.Int32; oneof = None; json_name = codes "a"; states_optional = false; options = record { packed = None; deprecated = None } }
      ∷ record { number = 2; name = codes "b"; presence = presences.Explicit; element = elements.Scalar scalars.Int32; oneof = None; json_name = codes "b"; states_optional = true; options = record { packed = None; deprecated = None } }
      ∷ [];
  declared = 1 ∷ 2 ∷ [];
  oneofs = [];
  nested_types = [];
  nested_enums = [];
  reserved_numbers = [];
  reserved_names = [];
  options = record { deprecated = None };
}

abbrev map_file : FileView
map_file = record { name = codes "m.proto"; package_name = []; imports = []; types = record { index = 0 } ∷ []; enums = []; services = []; options = [] }

abbrev pub MapStated : Type 0
MapStated = stated map_set ≡ Some (record { files = map_file ∷ []; types = map_type ∷ []; enums = []; services = [] })

-- ---- two files

-- `b.proto`, of package p, comes before the `a.proto` that it imports. It has a message type with an enum, a type and a
-- oneof, then an enum of its own, and a service.
abbrev two_files : Message
two_files =
    child proto.SET_FILE (text proto.FILE_NAME (codes "b.proto") (text proto.FILE_PACKAGE (codes "p") (text proto.FILE_DEPENDENCY (codes "a.proto") (
    child proto.FILE_MESSAGE_TYPE (text proto.MESSAGE_NAME (codes "M") (
    child proto.MESSAGE_FIELD (field (codes "e") 1 1 14 (text proto.FIELD_TYPE_NAME (codes ".p.M.E") (count proto.FIELD_ONEOF_INDEX 0 nothing))) (
    child proto.MESSAGE_FIELD (field (codes "n") 2 3 11 (text proto.FIELD_TYPE_NAME (codes ".p.M.N") nothing)) (
    child proto.MESSAGE_NESTED_TYPE (text proto.MESSAGE_NAME (codes "N") nothing) (
    child proto.MESSAGE_ENUM_TYPE (text proto.ENUM_NAME (codes "E") (child proto.ENUM_VALUE (text proto.VALUE_NAME (codes "ZERO") nothing) nothing)) (
    child proto.MESSAGE_ONEOF_DECL (text proto.ONEOF_NAME (codes "choice") nothing) nothing)))))) (
    child proto.FILE_ENUM_TYPE (text proto.ENUM_NAME (codes "F") (child proto.ENUM_VALUE (text proto.VALUE_NAME (codes "NIL") nothing) nothing)) (
    child proto.FILE_SERVICE (text proto.SERVICE_NAME (codes "S") (child proto.SERVICE_METHOD (
    text proto.METHOD_NAME (codes "Do") (text proto.METHOD_INPUT_TYPE (codes ".p.M") (text proto.METHOD_OUTPUT_TYPE (codes ".A") nothing))) nothing)) proto3)))))) (
    child proto.SET_FILE (text proto.FILE_NAME (codes "a.proto") (child proto.FILE_MESSAGE_TYPE (text proto.MESSAGE_NAME (codes "A") nothing) proto3)) nothing)

abbrev Fields : Type 0
Fields = List (List ℕ × Element × Option ℕ)

abbrev fields_of : TypeView → Fields
fields_of t = map (λ (f : FieldView). (f.name, f.element, f.oneof)) t.fields

abbrev Methods : Type 0
Methods = List (List ℕ × TypeId × TypeId)

abbrev methods_of : ServiceView → List ℕ × Methods
methods_of s = (s.name, map (λ (m : MethodView). (m.name, m.input, m.output)) s.methods)

abbrev names_of : PartsView → List (List ℕ) × List (List ℕ) × List (List ℕ) × List Fields × List (List ℕ × Methods)
names_of p = (
  map (λ (f : FileView). f.name) p.files,
  map (λ (t : TypeView). t.name) p.types,
  map (λ (e : EnumView). e.name) p.enums,
  map fields_of p.types,
  map methods_of p.services,
)

-- a.proto comes first, and the package's enum before the message type's
abbrev pub FilesStated : Type 0
FilesStated = option_map names_of (stated two_files) ≡ Some (
  codes "a.proto" ∷ codes "b.proto" ∷ [],
  codes "A" ∷ codes "p.M" ∷ codes "p.M.N" ∷ [],
  codes "p.F" ∷ codes "p.M.E" ∷ [],
  [] ∷ ((codes "e", elements.Enum (record { index = 1 }), Some 0) ∷ (codes "n", elements.Message (record { index = 2 }), None) ∷ []) ∷ [] ∷ [],
  (codes "p.S", (codes "Do", record { index = 1 }, record { index = 0 }) ∷ []) ∷ [],
)

pub record WorkedStated : Type 0 where
  pub map : MapStated
  pub files : FilesStated
