-- Parts of messages that are put at one go.
use Rattle.std.specs.Prelude.{map, ◌++◌, length, ℕ, List}
use Rattle.std.specs.String.{string_bytes}
use Rattle.pg_schema.specs.declared.parts.Parts.{Parts}
use Rattle.pg_schema.specs.declared.parts.message_type.MessageType.{MessageType}
use Rattle.pg_schema.specs.declared.parts.file.File.{File}
use Rattle.pg_schema.specs.declared.parts.field.Field.{Field}
use Rattle.pg_set.specs.writing.Items.{Items, children, options, stated, texts, count, maybe_text}
use Rattle.pg_set.specs.writing.Places.{declared_in, Declared}
use Rattle.pg_set.specs.writing.Set.{file_items, services_items}
use Rattle.pg_set.specs.writing.Messages.{field_range, oneof_items, oneof_names, enums_items, types_items}
use Rattle.pg_set.specs.writing.Fields.{label, named_type, type_code}
use Rattle.pg_set.specs.declared.descriptor.proto.TheConstants as proto

-- the parts of the set's message
abbrev pub set_items : Parts → Items
set_items parts = children proto.SET_FILE (map (file_items (declared_in parts)) parts.files.items)

-- what is in a message type after its enums
abbrev pub type_rest : Declared → MessageType → Items
type_rest all t =
    options proto.MESSAGE_OPTIONS (stated proto.MESSAGE_DEPRECATED t.options.deprecated)
    ++ children proto.MESSAGE_ONEOF_DECL (map oneof_items (oneof_names all t))
    ++ children proto.MESSAGE_RESERVED_RANGE (map field_range t.reserved_numbers.items)
    ++ texts proto.MESSAGE_RESERVED_NAME (map string_bytes t.reserved_names.items)

-- what a file declares
abbrev pub declared_items : Declared → File → Items
declared_items all f =
    children proto.FILE_MESSAGE_TYPE (types_items (length all.types) all f.types.items)
    ++ children proto.FILE_ENUM_TYPE (enums_items all f.enums.items)
    ++ children proto.FILE_SERVICE (services_items all f.services.items)

-- how often a field's items occur and what they are, in a message of that full name
abbrev pub kind_items : Declared → (scope : List ℕ) → Field → Items
kind_items all scope f =
    count proto.FIELD_LABEL (label f.presence) ++ count proto.FIELD_TYPE (type_code f.presence f.element)
    ++ maybe_text proto.FIELD_TYPE_NAME (named_type all scope f)
