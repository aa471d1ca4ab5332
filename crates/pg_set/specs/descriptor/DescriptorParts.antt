-- The parts of descriptor.proto as it is written down here: the file, those of its message types, with those of their
-- fields, and of its enums that a set of this profile has, with all names (descriptor.proto of protobuf,
-- `FileDescriptorSet` and below). Each enum has a value of number 0 besides, since a schema's enum has one. What is
-- left out is this profile's choice, as are that fields are declared by rising number, in which order enums are, and
-- that a field of a message type isn't marked `optional`.
use Rattle.std.specs.Prelude.{ℕ, ℤ, pos, false, not, ◌&&◌, ◌||◌, List, [], ◌∷◌, map, codes, Some, None, if◌then◌else◌}
use Rattle.pg_schema.specs.declared.parts.field.Element.{Element}
use Rattle.pg_schema.specs.declared.parts.field.EnumId.{EnumId}
use Rattle.pg_schema.specs.declared.parts.field.Presence.{Presence}
use Rattle.pg_schema.specs.declared.parts.field.Presence.TheVariants.{Explicit, Repeated}
use Rattle.pg_schema.specs.declared.parts.field.TypeId.{TypeId}
use Rattle.pg_schema.specs.rules.Fields.{is_message}
use Rattle.pg_schema.specs.JsonName.{default_json_name}
use Rattle.pg_schema.specs.Shape.{is_packable, is_singular}
use Rattle.pg_set.specs.declared.descriptor.proto.TheConstants as proto
use Rattle.pg_set.specs.descriptor.Descriptor.{enum_id, flag, label_enum, message, mode_enum, number, text, type_enum, type_id}
use Rattle.pg_set.specs.stated.Views.{EnumView, FieldView, FileView, PartsView, TypeView, ValueView}

-- ---- what a row says

-- a field in no oneof, of the default JSON name: a singular scalar or enum is `optional`, and a repeated one that could
-- be packed states that it isn't
abbrev pub field_of : ℕ → (name : List ℕ) → Presence → Element → FieldView
field_of number name presence element = record {
  number = number;
  name = name;
  presence = presence;
  element = element;
  oneof = None;
  json_name = default_json_name name;
  states_optional = is_singular presence && not (is_message element);
  options = record { packed = if is_singular presence || not (is_packable element) then None else Some false; deprecated = None };
}

abbrev pub one : ℕ → List ℕ → Element → FieldView
one number name element = field_of number name Explicit element

abbrev pub many : ℕ → List ℕ → Element → FieldView
many number name element = field_of number name (Repeated false) element

-- a message type whose fields are declared by rising number, with what is declared in it
abbrev pub type_of : (name : List ℕ) → List FieldView → List TypeId → List EnumId → TypeView
type_of name fields types enums = record {
  name = name;
  fields = fields;
  declared = map (λ (f : FieldView). f.number) fields;
  oneofs = [];
  nested_types = types;
  nested_enums = enums;
  reserved_numbers = [];
  reserved_names = [];
  options = record { deprecated = None };
}

-- one in which nothing is declared
abbrev pub plain : (name : List ℕ) → List FieldView → TypeView
plain name fields = type_of name fields [] []

abbrev pub value_of : ℤ → (name : List ℕ) → ValueView
value_of number name = record { name = name; number = number; options = record { deprecated = None } }

abbrev pub value : ℕ → (name : List ℕ) → ValueView
value number name = value_of (pos number) name

abbrev pub enum_of : (name : List ℕ) → List ValueView → EnumView
enum_of name values = record {
  name = name;
  values = values;
  reserved_numbers = [];
  reserved_names = [];
  options = record { allow_alias = None; deprecated = None };
}

-- ---- the message types

unfoldable pub set_type : TypeView
set_type = plain (codes "google.protobuf.FileDescriptorSet") (many proto.SET_FILE (codes "file") (message 1) ∷ [])

unfoldable pub file_type : TypeView
file_type =
    plain (codes "google.protobuf.FileDescriptorProto")
    (one proto.FILE_NAME (codes "name") text ∷ one proto.FILE_PACKAGE (codes "package") text
    ∷ many proto.FILE_DEPENDENCY (codes "dependency") text
    ∷ many proto.FILE_MESSAGE_TYPE (codes "message_type") (message 2)
    ∷ many proto.FILE_ENUM_TYPE (codes "enum_type") (message 6) ∷ many proto.FILE_SERVICE (codes "service") (message 9)
    ∷ one proto.FILE_OPTIONS (codes "options") (message 11)
    ∷ many proto.FILE_PUBLIC_DEPENDENCY (codes "public_dependency") number
    ∷ one proto.FILE_SYNTAX (codes "syntax") text ∷ [])

unfoldable pub message_type : TypeView
message_type =
    type_of (codes "google.protobuf.DescriptorProto")
    (one proto.MESSAGE_NAME (codes "name") text ∷ many proto.MESSAGE_FIELD (codes "field") (message 4)
    ∷ many proto.MESSAGE_NESTED_TYPE (codes "nested_type") (message 2)
    ∷ many proto.MESSAGE_ENUM_TYPE (codes "enum_type") (message 6)
    ∷ one proto.MESSAGE_OPTIONS (codes "options") (message 12)
    ∷ many proto.MESSAGE_ONEOF_DECL (codes "oneof_decl") (message 5)
    ∷ many proto.MESSAGE_RESERVED_RANGE (codes "reserved_range") (message 3)
    ∷ many proto.MESSAGE_RESERVED_NAME (codes "reserved_name") text ∷ []) (type_id 3 ∷ []) []

unfoldable pub range_type : TypeView
range_type =
    plain (codes "google.protobuf.DescriptorProto.ReservedRange")
    (one proto.RANGE_START (codes "start") number ∷ one proto.RANGE_END (codes "end") number ∷ [])

unfoldable pub field_type : TypeView
field_type =
    type_of (codes "google.protobuf.FieldDescriptorProto")
    (one proto.FIELD_NAME (codes "name") text ∷ one proto.FIELD_NUMBER (codes "number") number
    ∷ one proto.FIELD_LABEL (codes "label") label_enum ∷ one proto.FIELD_TYPE (codes "type") type_enum
    ∷ one proto.FIELD_TYPE_NAME (codes "type_name") text ∷ one proto.FIELD_OPTIONS (codes "options") (message 13)
    ∷ one proto.FIELD_ONEOF_INDEX (codes "oneof_index") number ∷ one proto.FIELD_JSON_NAME (codes "json_name") text
    ∷ one proto.FIELD_PROTO3_OPTIONAL (codes "proto3_optional") flag ∷ []) [] (enum_id 0 ∷ enum_id 1 ∷ [])

unfoldable pub oneof_type : TypeView
oneof_type = plain (codes "google.protobuf.OneofDescriptorProto") (one proto.ONEOF_NAME (codes "name") text ∷ [])

unfoldable pub enum_type : TypeView
enum_type =
    type_of (codes "google.protobuf.EnumDescriptorProto")
    (one proto.ENUM_NAME (codes "name") text ∷ many proto.ENUM_VALUE (codes "value") (message 8)
    ∷ one proto.ENUM_OPTIONS (codes "options") (message 14)
    ∷ many proto.ENUM_RESERVED_RANGE (codes "reserved_range") (message 7)
    ∷ many proto.ENUM_RESERVED_NAME (codes "reserved_name") text ∷ []) (type_id 7 ∷ []) []

unfoldable pub enum_range_type : TypeView
enum_range_type =
    plain (codes "google.protobuf.EnumDescriptorProto.EnumReservedRange")
    (one proto.RANGE_START (codes "start") number ∷ one proto.RANGE_END (codes "end") number ∷ [])

unfoldable pub value_type : TypeView
value_type =
    plain (codes "google.protobuf.EnumValueDescriptorProto")
    (one proto.VALUE_NAME (codes "name") text ∷ one proto.VALUE_NUMBER (codes "number") number
    ∷ one proto.VALUE_OPTIONS (codes "options") (message 15) ∷ [])

unfoldable pub service_type : TypeView
service_type =
    plain (codes "google.protobuf.ServiceDescriptorProto")
    (one proto.SERVICE_NAME (codes "name") text ∷ many proto.SERVICE_METHOD (codes "method") (message 10)
    ∷ one proto.SERVICE_OPTIONS (codes "options") (message 16) ∷ [])

unfoldable pub method_type : TypeView
method_type =
    plain (codes "google.protobuf.MethodDescriptorProto")
    (one proto.METHOD_NAME (codes "name") text ∷ one proto.METHOD_INPUT_TYPE (codes "input_type") text
    ∷ one proto.METHOD_OUTPUT_TYPE (codes "output_type") text ∷ one proto.METHOD_OPTIONS (codes "options") (message 17)
    ∷ one proto.METHOD_CLIENT_STREAMING (codes "client_streaming") flag
    ∷ one proto.METHOD_SERVER_STREAMING (codes "server_streaming") flag ∷ [])

-- ---- the options

unfoldable pub file_options_type : TypeView
file_options_type =
    type_of (codes "google.protobuf.FileOptions")
    (one proto.FILE_JAVA_PACKAGE (codes "java_package") text ∷ one proto.FILE_JAVA_OUTER_CLASSNAME (codes "java_outer_classname") text
    ∷ one proto.FILE_OPTIMIZE_FOR (codes "optimize_for") mode_enum
    ∷ one proto.FILE_JAVA_MULTIPLE_FILES (codes "java_multiple_files") flag
    ∷ one proto.FILE_GO_PACKAGE (codes "go_package") text ∷ one proto.FILE_DEPRECATED (codes "deprecated") flag
    ∷ one proto.FILE_CC_ENABLE_ARENAS (codes "cc_enable_arenas") flag
    ∷ one proto.FILE_OBJC_CLASS_PREFIX (codes "objc_class_prefix") text
    ∷ one proto.FILE_CSHARP_NAMESPACE (codes "csharp_namespace") text
    ∷ one proto.FILE_SWIFT_PREFIX (codes "swift_prefix") text
    ∷ one proto.FILE_PHP_CLASS_PREFIX (codes "php_class_prefix") text
    ∷ one proto.FILE_PHP_NAMESPACE (codes "php_namespace") text
    ∷ one proto.FILE_RUBY_PACKAGE (codes "ruby_package") text ∷ []) [] (enum_id 2 ∷ [])

unfoldable pub message_options_type : TypeView
message_options_type =
    plain (codes "google.protobuf.MessageOptions")
    (one proto.MESSAGE_DEPRECATED (codes "deprecated") flag ∷ one proto.MESSAGE_MAP_ENTRY (codes "map_entry") flag ∷ [])

unfoldable pub field_options_type : TypeView
field_options_type =
    plain (codes "google.protobuf.FieldOptions")
    (one proto.FIELD_PACKED (codes "packed") flag ∷ one proto.FIELD_DEPRECATED (codes "deprecated") flag ∷ [])

unfoldable pub enum_options_type : TypeView
enum_options_type =
    plain (codes "google.protobuf.EnumOptions")
    (one proto.ENUM_ALLOW_ALIAS (codes "allow_alias") flag ∷ one proto.ENUM_DEPRECATED (codes "deprecated") flag ∷ [])

unfoldable pub value_options_type : TypeView
value_options_type =
    plain (codes "google.protobuf.EnumValueOptions") (one proto.VALUE_DEPRECATED (codes "deprecated") flag ∷ [])

unfoldable pub service_options_type : TypeView
service_options_type =
    plain (codes "google.protobuf.ServiceOptions") (one proto.SERVICE_DEPRECATED (codes "deprecated") flag ∷ [])

unfoldable pub method_options_type : TypeView
method_options_type =
    plain (codes "google.protobuf.MethodOptions") (one proto.METHOD_DEPRECATED (codes "deprecated") flag ∷ [])

-- ---- the enums

unfoldable pub label_view : EnumView
label_view =
    enum_of (codes "google.protobuf.FieldDescriptorProto.Label")
    (value 0 (codes "LABEL_NONE") ∷ value 1 (codes "LABEL_OPTIONAL") ∷ value 2 (codes "LABEL_REQUIRED") ∷ value 3 (codes "LABEL_REPEATED") ∷ [])

unfoldable pub kind_view : EnumView
kind_view =
    enum_of (codes "google.protobuf.FieldDescriptorProto.Type")
    (value 0 (codes "TYPE_NONE") ∷ value 1 (codes "TYPE_DOUBLE") ∷ value 2 (codes "TYPE_FLOAT") ∷ value 3 (codes "TYPE_INT64")
    ∷ value 4 (codes "TYPE_UINT64") ∷ value 5 (codes "TYPE_INT32") ∷ value 6 (codes "TYPE_FIXED64")
    ∷ value 7 (codes "TYPE_FIXED32")
    ∷ value 8 (codes "TYPE_BOOL") ∷ value 9 (codes "TYPE_STRING") ∷ value 10 (codes "TYPE_GROUP")
    ∷ value 11 (codes "TYPE_MESSAGE")
    ∷ value 12 (codes "TYPE_BYTES") ∷ value 13 (codes "TYPE_UINT32") ∷ value 14 (codes "TYPE_ENUM")
    ∷ value 15 (codes "TYPE_SFIXED32")
    ∷ value 16 (codes "TYPE_SFIXED64") ∷ value 17 (codes "TYPE_SINT32") ∷ value 18 (codes "TYPE_SINT64") ∷ [])

unfoldable pub mode_view : EnumView
mode_view =
    enum_of (codes "google.protobuf.FileOptions.OptimizeMode")
    (value 0 (codes "MODE_NONE") ∷ value 1 (codes "SPEED") ∷ value 2 (codes "CODE_SIZE") ∷ value 3 (codes "LITE_RUNTIME") ∷ [])

-- ---- the file, and all parts

unfoldable pub descriptor_file : FileView
descriptor_file = record {
  name = codes "google/protobuf/descriptor.proto";
  package_name = codes "google.protobuf";
  imports = [];
  types = map type_id (0 ∷ 1 ∷ 2 ∷ 4 ∷ 5 ∷ 6 ∷ 8 ∷ 9 ∷ 10 ∷ 11 ∷ 12 ∷ 13 ∷ 14 ∷ 15 ∷ 16 ∷ 17 ∷ []);
  enums = [];
  services = [];
  options = [];
}

abbrev pub descriptor_types : List TypeView
descriptor_types =
    set_type ∷ file_type ∷ message_type ∷ range_type ∷ field_type ∷ oneof_type ∷ enum_type ∷ enum_range_type
    ∷ value_type ∷ service_type
    ∷ method_type ∷ file_options_type ∷ message_options_type ∷ field_options_type ∷ enum_options_type
    ∷ value_options_type
    ∷ service_options_type ∷ method_options_type ∷ []

abbrev pub descriptor_enums : List EnumView
descriptor_enums = label_view ∷ kind_view ∷ mode_view ∷ []

abbrev pub descriptor_parts : PartsView
descriptor_parts = record {
  files = descriptor_file ∷ [];
  types = descriptor_types;
  enums = descriptor_enums;
  services = [];
}
