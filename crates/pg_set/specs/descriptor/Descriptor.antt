-- The written schema of descriptor.proto: its messages with the fields that a set of this profile has (descriptor.proto
-- of protobuf, `FileDescriptorSet` and below). Singular fields have explicit presence, repeated numbers are unpacked,
-- both as in that file. That other fields and options are left out is this profile's choice.
use Rattle.std.specs.Prelude.{ℕ, false, List, [], ◌∷◌, None}
use Rattle.pg_schema.specs.declared.parts.field.EnumId.{EnumId}
use Rattle.pg_schema.specs.declared.parts.field.TypeId.{TypeId}
use Rattle.pg_schema.specs.declared.parts.field.Element.{Element}
use Rattle.pg_schema.specs.declared.parts.field.Element.TheVariants as elements
use Rattle.pg_schema.specs.declared.parts.field.Presence.TheVariants.{Explicit, Repeated}
use Rattle.pg_schema.specs.declared.parts.field.Scalar.TheVariants as scalars
use Rattle.pg_schema.specs.Shape.{FieldShape, Shape}
use Rattle.pg_set.specs.declared.descriptor.proto.TheConstants as proto

-- ---- the indices of the message types and enums

abbrev pub type_id : ℕ → TypeId
type_id place = record { index = place }

abbrev pub enum_id : ℕ → EnumId
enum_id place = record { index = place }

abbrev pub file_set : TypeId
file_set = type_id 0

abbrev pub enumeration : ℕ → Element
enumeration place = elements.Enum (enum_id place)

abbrev pub label_enum : Element
label_enum = enumeration 0

abbrev pub type_enum : Element
type_enum = enumeration 1

abbrev pub mode_enum : Element
mode_enum = enumeration 2

-- ---- kinds of fields

abbrev pub text : Element
text = elements.Scalar scalars.String

abbrev pub number : Element
number = elements.Scalar scalars.Int32

abbrev pub flag : Element
flag = elements.Scalar scalars.Bool

abbrev pub message : ℕ → Element
message place = elements.Message (type_id place)

abbrev pub one : ℕ → Element → FieldShape
one number element = record { number = number; presence = Explicit; element = element; oneof = None }

abbrev pub many : ℕ → Element → FieldShape
many number element = record { number = number; presence = Repeated false; element = element; oneof = None }

-- ---- the message types

abbrev pub set_fields : List FieldShape
set_fields = many proto.SET_FILE (message 1) ∷ []

abbrev pub file_fields : List FieldShape
file_fields =
    one proto.FILE_NAME text ∷ one proto.FILE_PACKAGE text ∷ many proto.FILE_DEPENDENCY text
    ∷ many proto.FILE_MESSAGE_TYPE (message 2)
    ∷ many proto.FILE_ENUM_TYPE (message 6) ∷ many proto.FILE_SERVICE (message 9) ∷ one proto.FILE_OPTIONS (message 11)
    ∷ many proto.FILE_PUBLIC_DEPENDENCY number ∷ one proto.FILE_SYNTAX text ∷ []

abbrev pub message_fields : List FieldShape
message_fields =
    one proto.MESSAGE_NAME text ∷ many proto.MESSAGE_FIELD (message 4) ∷ many proto.MESSAGE_NESTED_TYPE (message 2)
    ∷ many proto.MESSAGE_ENUM_TYPE (message 6) ∷ one proto.MESSAGE_OPTIONS (message 12)
    ∷ many proto.MESSAGE_ONEOF_DECL (message 5)
    ∷ many proto.MESSAGE_RESERVED_RANGE (message 3) ∷ many proto.MESSAGE_RESERVED_NAME text ∷ []

abbrev pub range_fields : List FieldShape
range_fields = one proto.RANGE_START number ∷ one proto.RANGE_END number ∷ []

abbrev pub field_fields : List FieldShape
field_fields =
    one proto.FIELD_NAME text ∷ one proto.FIELD_NUMBER number ∷ one proto.FIELD_LABEL label_enum
    ∷ one proto.FIELD_TYPE type_enum
    ∷ one proto.FIELD_TYPE_NAME text ∷ one proto.FIELD_OPTIONS (message 13) ∷ one proto.FIELD_ONEOF_INDEX number
    ∷ one proto.FIELD_JSON_NAME text ∷ one proto.FIELD_PROTO3_OPTIONAL flag ∷ []

abbrev pub oneof_fields : List FieldShape
oneof_fields = one proto.ONEOF_NAME text ∷ []

abbrev pub enum_fields : List FieldShape
enum_fields =
    one proto.ENUM_NAME text ∷ many proto.ENUM_VALUE (message 8) ∷ one proto.ENUM_OPTIONS (message 14)
    ∷ many proto.ENUM_RESERVED_RANGE (message 7) ∷ many proto.ENUM_RESERVED_NAME text ∷ []

abbrev pub value_fields : List FieldShape
value_fields = one proto.VALUE_NAME text ∷ one proto.VALUE_NUMBER number ∷ one proto.VALUE_OPTIONS (message 15) ∷ []

abbrev pub service_fields : List FieldShape
service_fields =
    one proto.SERVICE_NAME text ∷ many proto.SERVICE_METHOD (message 10) ∷ one proto.SERVICE_OPTIONS (message 16) ∷ []

abbrev pub method_fields : List FieldShape
method_fields =
    one proto.METHOD_NAME text ∷ one proto.METHOD_INPUT_TYPE text ∷ one proto.METHOD_OUTPUT_TYPE text
    ∷ one proto.METHOD_OPTIONS (message 17) ∷ one proto.METHOD_CLIENT_STREAMING flag
    ∷ one proto.METHOD_SERVER_STREAMING flag ∷ []

-- ---- the options

abbrev pub file_options : List FieldShape
file_options =
    one proto.FILE_JAVA_PACKAGE text ∷ one proto.FILE_JAVA_OUTER_CLASSNAME text ∷ one proto.FILE_OPTIMIZE_FOR mode_enum
    ∷ one proto.FILE_JAVA_MULTIPLE_FILES flag ∷ one proto.FILE_GO_PACKAGE text ∷ one proto.FILE_DEPRECATED flag
    ∷ one proto.FILE_CC_ENABLE_ARENAS flag ∷ one proto.FILE_OBJC_CLASS_PREFIX text
    ∷ one proto.FILE_CSHARP_NAMESPACE text
    ∷ one proto.FILE_SWIFT_PREFIX text ∷ one proto.FILE_PHP_CLASS_PREFIX text ∷ one proto.FILE_PHP_NAMESPACE text
    ∷ one proto.FILE_RUBY_PACKAGE text ∷ []

abbrev pub message_options : List FieldShape
message_options = one proto.MESSAGE_DEPRECATED flag ∷ one proto.MESSAGE_MAP_ENTRY flag ∷ []

abbrev pub field_options : List FieldShape
field_options = one proto.FIELD_PACKED flag ∷ one proto.FIELD_DEPRECATED flag ∷ []

abbrev pub enum_options : List FieldShape
enum_options = one proto.ENUM_ALLOW_ALIAS flag ∷ one proto.ENUM_DEPRECATED flag ∷ []

abbrev pub value_options : List FieldShape
value_options = one proto.VALUE_DEPRECATED flag ∷ []

-- of services and methods
abbrev pub service_options : List FieldShape
service_options = one proto.SERVICE_DEPRECATED flag ∷ []

-- ---- all of them

abbrev pub descriptor_shape : Shape
descriptor_shape =
    set_fields ∷ file_fields ∷ message_fields ∷ range_fields ∷ field_fields ∷ oneof_fields ∷ enum_fields ∷ range_fields
    ∷ value_fields
    ∷ service_fields ∷ method_fields ∷ file_options ∷ message_options ∷ field_options ∷ enum_options ∷ value_options
    ∷ service_options
    ∷ service_options ∷ []

-- the shape of the schema that sets are read and written by; a proof unfolds it only where it says so
unfoldable pub written_shape : Shape
written_shape = descriptor_shape
