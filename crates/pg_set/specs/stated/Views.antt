-- What the parts of a schema say, wherever their strings and lists lie in memory.
use Rattle.std.specs.Prelude.{ℕ, ℤ, Bool, List, map, Option}
use Rattle.std.specs.String.{string_bytes}
use Rattle.pg_schema.specs.declared.parts.enum_type.EnumType.{EnumType}
use Rattle.pg_schema.specs.declared.parts.enum_type.EnumValue.{EnumValue}
use Rattle.pg_schema.specs.declared.parts.enum_type.ReservedValues.{ReservedValues}
use Rattle.pg_schema.specs.declared.parts.field.Element.{Element}
use Rattle.pg_schema.specs.declared.parts.field.EnumId.{EnumId}
use Rattle.pg_schema.specs.declared.parts.field.Field.{Field}
use Rattle.pg_schema.specs.declared.parts.field.Presence.{Presence}
use Rattle.pg_schema.specs.declared.parts.field.TypeId.{TypeId}
use Rattle.pg_schema.specs.declared.parts.file.File.{File}
use Rattle.pg_schema.specs.declared.parts.file.Import.{Import}
use Rattle.pg_schema.specs.declared.parts.message_type.MessageType.{MessageType}
use Rattle.pg_schema.specs.declared.parts.message_type.ReservedFields.{ReservedFields}
use Rattle.pg_schema.specs.declared.parts.options.EnumOptions.{EnumOptions}
use Rattle.pg_schema.specs.declared.parts.options.EnumValueOptions.{EnumValueOptions}
use Rattle.pg_schema.specs.declared.parts.options.FieldOptions.{FieldOptions}
use Rattle.pg_schema.specs.declared.parts.options.FileOption.{FileOption}
use Rattle.pg_schema.specs.declared.parts.options.MessageOptions.{MessageOptions}
use Rattle.pg_schema.specs.declared.parts.options.MethodOptions.{MethodOptions}
use Rattle.pg_schema.specs.declared.parts.options.OptimizeMode.{OptimizeMode}
use Rattle.pg_schema.specs.declared.parts.options.OptionValue.{OptionValue}
use Rattle.pg_schema.specs.declared.parts.options.OptionValue.TheVariants as values
use Rattle.pg_schema.specs.declared.parts.options.ServiceOptions.{ServiceOptions}
use Rattle.pg_schema.specs.declared.parts.Parts.{Parts}
use Rattle.pg_schema.specs.declared.parts.service.Method.{Method}
use Rattle.pg_schema.specs.declared.parts.service.Service.{Service}
use Rattle.pg_schema.specs.declared.parts.service.ServiceId.{ServiceId}

-- ---- fields and message types

pub record FieldView : Type 0 where
  pub number : ℕ
  pub name : List ℕ
  pub presence : Presence
  pub element : Element
  pub oneof : Option ℕ
  pub json_name : List ℕ
  pub states_optional : Bool
  pub options : FieldOptions

abbrev pub field_view : Field → FieldView
field_view f = record {
  number = f.number;
  name = string_bytes f.name;
  presence = f.presence;
  element = f.element;
  oneof = f.oneof;
  json_name = string_bytes f.json_name;
  states_optional = f.states_optional;
  options = f.options;
}

pub record TypeView : Type 0 where
  pub name : List ℕ
  pub fields : List FieldView
  pub declared : List ℕ
  pub oneofs : List (List ℕ)
  pub nested_types : List TypeId
  pub nested_enums : List EnumId
  pub reserved_numbers : List ReservedFields
  pub reserved_names : List (List ℕ)
  pub options : MessageOptions

abbrev pub type_view : MessageType → TypeView
type_view t = record {
  name = string_bytes t.name;
  fields = map field_view t.fields.items;
  declared = t.declared.items;
  oneofs = map string_bytes t.oneofs.items;
  nested_types = t.nested_types.items;
  nested_enums = t.nested_enums.items;
  reserved_numbers = t.reserved_numbers.items;
  reserved_names = map string_bytes t.reserved_names.items;
  options = t.options;
}

-- ---- enums

pub record ValueView : Type 0 where
  pub name : List ℕ
  pub number : ℤ
  pub options : EnumValueOptions

abbrev pub value_view : EnumValue → ValueView
value_view v = record { name = string_bytes v.name; number = v.number; options = v.options }

pub record EnumView : Type 0 where
  pub name : List ℕ
  pub values : List ValueView
  pub reserved_numbers : List ReservedValues
  pub reserved_names : List (List ℕ)
  pub options : EnumOptions

abbrev pub enum_view : EnumType → EnumView
enum_view e = record {
  name = string_bytes e.name;
  values = map value_view e.values.items;
  reserved_numbers = e.reserved_numbers.items;
  reserved_names = map string_bytes e.reserved_names.items;
  options = e.options;
}

-- ---- services

pub record MethodView : Type 0 where
  pub name : List ℕ
  pub input : TypeId
  pub output : TypeId
  pub client_streaming : Bool
  pub server_streaming : Bool
  pub options : MethodOptions

abbrev pub method_view : Method → MethodView
method_view m = record {
  name = string_bytes m.name;
  input = m.input;
  output = m.output;
  client_streaming = m.client_streaming;
  server_streaming = m.server_streaming;
  options = m.options;
}

pub record ServiceView : Type 0 where
  pub name : List ℕ
  pub methods : List MethodView
  pub options : ServiceOptions

abbrev pub service_view : Service → ServiceView
service_view s = record {
  name = string_bytes s.name;
  methods = map method_view s.methods.items;
  options = s.options;
}

-- ---- files

pub record ImportView : Type 0 where
  pub path : List ℕ
  pub is_public : Bool

abbrev pub import_view : Import → ImportView
import_view i = record { path = string_bytes i.path; is_public = i.is_public }

pub data ValueOf : Type 0 where
  Flag : Bool → ValueOf
  Mode : OptimizeMode → ValueOf
  Text : List ℕ → ValueOf

abbrev pub value_of : OptionValue → ValueOf
value_of (values.Flag flag) = Flag flag
value_of (values.Mode mode) = Mode mode
value_of (values.Text text) = Text (string_bytes text)

pub record OptionView : Type 0 where
  pub number : ℕ
  pub value : ValueOf

abbrev pub option_view : FileOption → OptionView
option_view o = record { number = o.number; value = value_of o.value }

pub record FileView : Type 0 where
  pub name : List ℕ
  pub package_name : List ℕ
  pub imports : List ImportView
  pub types : List TypeId
  pub enums : List EnumId
  pub services : List ServiceId
  pub options : List OptionView

abbrev pub file_view : File → FileView
file_view f = record {
  name = string_bytes f.name;
  package_name = string_bytes f.package;
  imports = map import_view f.imports.items;
  types = f.types.items;
  enums = f.enums.items;
  services = f.services.items;
  options = map option_view f.options.items;
}

-- ---- all parts

pub record PartsView : Type 0 where
  pub files : List FileView
  pub types : List TypeView
  pub enums : List EnumView
  pub services : List ServiceView

abbrev pub parts_view : Parts → PartsView
parts_view p = record {
  files = map file_view p.files.items;
  types = map type_view p.types.items;
  enums = map enum_view p.enums.items;
  services = map service_view p.services.items;
}
