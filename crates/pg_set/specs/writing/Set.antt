-- The set of files that a schema's all give, `FileDescriptorSet` of descriptor.proto.
use Rattle.std.specs.Prelude.{◌≡◌, ℕ, suc, List, [], ◌∷◌, ◌++◌, map, flat_map, length, codes, Option, Some, None, slice_get, if◌then◌else◌, ◌≤◌}
use Rattle.std.specs.String.{string_bytes}
use Rattle.pg_schema.specs.declared.parts.file.File.{File}
use Rattle.pg_schema.specs.declared.parts.file.Import.{Import}
use Rattle.pg_schema.specs.declared.parts.options.FileOption.{FileOption}
use Rattle.pg_schema.specs.declared.parts.options.OptimizeMode.{OptimizeMode}
use Rattle.pg_schema.specs.declared.parts.options.OptimizeMode.TheVariants as modes
use Rattle.pg_schema.specs.declared.parts.options.OptionValue.{OptionValue}
use Rattle.pg_schema.specs.declared.parts.options.OptionValue.TheVariants as values
use Rattle.pg_schema.specs.declared.parts.service.Method.{Method}
use Rattle.pg_schema.specs.declared.parts.service.Service.{Service}
use Rattle.pg_schema.specs.declared.parts.service.ServiceId.{ServiceId}
use Rattle.pg_schema.specs.rules.Scopes.{type_name}
use Rattle.pg_dyn.specs.message.Message.{Message, message_from}
use Rattle.pg_dyn.specs.encoding.Encoding.{cap, enc}
use Rattle.pg_schema.specs.declared.parts.Parts.{Parts}
use Rattle.pg_set.specs.writing.Places.{Declared, declared_in}
use Rattle.pg_set.specs.descriptor.Descriptor.{descriptor_shape, file_set}
use Rattle.pg_set.specs.writing.Fields.{dotted}
use Rattle.pg_set.specs.writing.Items.{Items, text, texts, filled, count, counts, flag, mark, stated, children, options}
use Rattle.pg_set.specs.writing.Messages.{own_name, where_found, types_items, enums_items}
use Rattle.pg_set.specs.declared.descriptor.proto.TheConstants as proto

-- ---- services

abbrev pub called_type : ℕ → Option (List ℕ) → Items
called_type number (Some name) = text number (dotted name)
called_type number None = []

-- streams are marked where they are
abbrev pub method_items : Declared → Method → Items
method_items all m =
    text proto.METHOD_NAME (string_bytes m.name) ++ called_type proto.METHOD_INPUT_TYPE (type_name all.types m.input)
    ++ called_type proto.METHOD_OUTPUT_TYPE (type_name all.types m.output)
    ++ options proto.METHOD_OPTIONS (stated proto.METHOD_DEPRECATED m.options.deprecated)
    ++ mark proto.METHOD_CLIENT_STREAMING m.client_streaming ++ mark proto.METHOD_SERVER_STREAMING m.server_streaming

abbrev pub service_items : Declared → Service → Items
service_items all s =
    text proto.SERVICE_NAME (own_name (string_bytes s.name))
    ++ children proto.SERVICE_METHOD (map (method_items all) s.methods.items)
    ++ options proto.SERVICE_OPTIONS (stated proto.SERVICE_DEPRECATED s.options.deprecated)

abbrev pub services_items : Declared → List ServiceId → List Items
services_items all ids =
    flat_map (λ (id : ServiceId). where_found (service_items all) (slice_get all.services id.index)) ids

-- ---- files

-- SPEED, CODE_SIZE, LITE_RUNTIME
abbrev pub mode_code : OptimizeMode → ℕ
mode_code modes.Speed = 1
mode_code modes.CodeSize = 2
mode_code modes.LiteRuntime = 3

abbrev pub option_items : ℕ → OptionValue → Items
option_items number (values.Flag b) = flag number b
option_items number (values.Mode mode) = count number (mode_code mode)
option_items number (values.Text t) = text number (string_bytes t)

-- FileOptions, by rising number
abbrev pub file_options : List FileOption → Items
file_options list = flat_map (λ (o : FileOption). option_items o.number o.value) list

-- the indices of the public imports, counted from that of the first
abbrev pub public_places : (place : ℕ) → List Import → List ℕ
public_places place [] = []
public_places place (i ∷ is) =
    if i.is_public then place ∷ public_places (suc place) is else public_places (suc place) is

-- the package where one is stated
abbrev pub file_items : Declared → File → Items
file_items all f =
    text proto.FILE_NAME (string_bytes f.name) ++ filled proto.FILE_PACKAGE (string_bytes f.package)
    ++ texts proto.FILE_DEPENDENCY (map (λ (i : Import). string_bytes i.path) f.imports.items)
    ++ children proto.FILE_MESSAGE_TYPE (types_items (length all.types) all f.types.items)
    ++ children proto.FILE_ENUM_TYPE (enums_items all f.enums.items)
    ++ children proto.FILE_SERVICE (services_items all f.services.items)
    ++ options proto.FILE_OPTIONS (file_options f.options.items)
    ++ counts proto.FILE_PUBLIC_DEPENDENCY (public_places 0 f.imports.items) ++ text proto.FILE_SYNTAX (codes "proto3")

-- ---- the set

-- the message of a schema's parts
abbrev pub set_message : Parts → Message
set_message parts = message_from (children proto.SET_FILE (map (file_items (declared_in parts)) parts.files.items)) []

-- the bytes are a set of the schema's files, no longer than an encoding may be
abbrev pub fds : Parts → List ℕ → Type 0
fds parts bytes = (bytes ≡ enc descriptor_shape file_set (set_message parts)) × (length bytes ≤ cap)
