-- The full names that files declare (proto3 language specification, "Package", "Message definition", "Enum definition";
-- proto3 language guide, "Enumerations": the values of an enum are siblings of its name). That a map field declares an
-- entry type is descriptor.proto's `map_entry`.
use Rattle.std.specs.Prelude.{ℕ, true, List, [], ◌∷◌, ◌++◌, map, flat_map, codes, Option, Some, None, slice_get, if◌then◌else◌}
use Rattle.std.specs.String.{string_bytes}
use Rattle.pg_schema.specs.declared.parts.enum_type.EnumType.{EnumType}
use Rattle.pg_schema.specs.declared.parts.field.EnumId.{EnumId}
use Rattle.pg_schema.specs.declared.parts.field.Field.{Field}
use Rattle.pg_schema.specs.declared.parts.file.File.{File}
use Rattle.pg_schema.specs.declared.parts.message_type.MessageType.{MessageType}
use Rattle.pg_schema.specs.declared.parts.Parts.{Parts}
use Rattle.pg_schema.specs.declared.parts.service.Method.{Method}
use Rattle.pg_schema.specs.declared.parts.service.Service.{Service}
use Rattle.pg_schema.specs.rules.Enums.{value_names}
use Rattle.pg_schema.specs.JsonName.{in_camel_case}
use Rattle.pg_schema.specs.rules.Messages.{field_names}
use Rattle.pg_schema.specs.Shape.{is_map}

-- the full name of a name that a scope declares
abbrev pub within : (scope name : List ℕ) → List ℕ
within [] name = name
within (byte ∷ bytes) name = (byte ∷ bytes) ++ 46 ∷ name

-- what a map field's entry type is called: the field's name without its `_`, its first letter and each after a `_` in
-- upper case, and `Entry`
abbrev pub entry_name : List ℕ → List ℕ
entry_name name = in_camel_case true name ++ codes "Entry"

abbrev pub entry_of : Field → List (List ℕ)
entry_of f = if is_map f.presence then entry_name (string_bytes f.name) ∷ [] else []

abbrev pub entry_names : List Field → List (List ℕ)
entry_names fields = flat_map entry_of fields

abbrev pub values_of : Option EnumType → List (List ℕ)
values_of None = []
values_of (Some e) = value_names e.values.items

-- the names of the values of the enums at these indices
abbrev pub values_at : List EnumType → List EnumId → List (List ℕ)
values_at enums ids = flat_map (λ (id : EnumId). values_of (slice_get enums id.index)) ids

abbrev pub method_names : List Method → List (List ℕ)
method_names methods = map (λ (m : Method). string_bytes m.name) methods

-- its own name, and those of its fields, oneofs, map entries and of the values of its enums
abbrev pub type_names : List EnumType → MessageType → List (List ℕ)
type_names enums t =
    string_bytes t.name ∷ map (within (string_bytes t.name))
    (field_names t.fields.items ++ map string_bytes t.oneofs.items ++ entry_names t.fields.items
    ++ values_at enums t.nested_enums.items)

abbrev pub service_names : Service → List (List ℕ)
service_names s = string_bytes s.name ∷ map (within (string_bytes s.name)) (method_names s.methods.items)

-- the values of the enums that the file itself declares
abbrev pub file_names : List EnumType → File → List (List ℕ)
file_names enums f = map (within (string_bytes f.package)) (values_at enums f.enums.items)

abbrev pub declared_names : Parts → List (List ℕ)
declared_names parts =
    flat_map (type_names parts.enums.items) parts.types.items
    ++ map (λ (e : EnumType). string_bytes e.name) parts.enums.items
    ++ flat_map service_names parts.services.items ++ flat_map (file_names parts.enums.items) parts.files.items
