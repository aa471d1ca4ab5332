-- Where message types, enums and services are declared (proto3 language specification, "Package", "Message
-- definition"). Each is declared once, by a file or by a message type, and its full name is the name of that scope and
-- a word.
use Rattle.std.specs.Prelude.{ℕ, Bool, false, not, nat_eq, nat_lt, ◌&&◌, List, [], ◌∷◌, ◌++◌, map, length, take, drop, Option, Some, None, slice_get, flat_map, option_map}
use Rattle.std.specs.List.{list_all}
use Rattle.std.specs.Str.{bytes_eq}
use Rattle.std.specs.String.{string_bytes}
use Rattle.pg_schema.specs.declared.parts.enum_type.EnumType.{EnumType}
use Rattle.pg_schema.specs.declared.parts.field.EnumId.{EnumId}
use Rattle.pg_schema.specs.declared.parts.field.TypeId.{TypeId}
use Rattle.pg_schema.specs.declared.parts.file.File.{File}
use Rattle.pg_schema.specs.declared.parts.message_type.MessageType.{MessageType}
use Rattle.pg_schema.specs.declared.parts.service.Service.{Service}
use Rattle.pg_schema.specs.declared.parts.service.ServiceId.{ServiceId}
use Rattle.pg_schema.specs.rules.Pairs.{all_pairs}
use Rattle.pg_schema.specs.rules.Words.{is_word}

abbrev pub is_dot_and_word : List ℕ → Bool
is_dot_and_word [] = false
is_dot_and_word (byte ∷ bytes) = nat_eq byte 46 && is_word bytes

-- the name is that scope, a dot and a word; a word alone where the scope has no name
abbrev pub is_in : (scope name : List ℕ) → Bool
is_in [] name = is_word name
is_in (byte ∷ bytes) name =
    bytes_eq (take (length (byte ∷ bytes)) name) (byte ∷ bytes) && is_dot_and_word (drop (length (byte ∷ bytes)) name)

-- there is such a name, and it is in the scope
abbrev pub is_named_in : List ℕ → Option (List ℕ) → Bool
is_named_in scope None = false
is_named_in scope (Some name) = is_in scope name

abbrev pub type_name : List MessageType → TypeId → Option (List ℕ)
type_name types id = option_map (λ (t : MessageType). string_bytes t.name) (slice_get types id.index)

abbrev pub enum_name : List EnumType → EnumId → Option (List ℕ)
enum_name enums id = option_map (λ (e : EnumType). string_bytes e.name) (slice_get enums id.index)

abbrev pub service_name : List Service → ServiceId → Option (List ℕ)
service_name services id = option_map (λ (s : Service). string_bytes s.name) (slice_get services id.index)

abbrev pub are_types_in : List MessageType → List ℕ → List TypeId → Bool
are_types_in types scope ids = list_all (λ id. is_named_in scope (type_name types id)) ids

abbrev pub are_enums_in : List EnumType → List ℕ → List EnumId → Bool
are_enums_in enums scope ids = list_all (λ id. is_named_in scope (enum_name enums id)) ids

abbrev pub are_services_in : List Service → List ℕ → List ServiceId → Bool
are_services_in services scope ids = list_all (λ id. is_named_in scope (service_name services id)) ids

-- what the message type declares is in it
abbrev pub is_type_scope : List MessageType → List EnumType → MessageType → Bool
is_type_scope types enums t =
    are_types_in types (string_bytes t.name) t.nested_types.items
    && are_enums_in enums (string_bytes t.name) t.nested_enums.items

-- what the file declares is in its package
abbrev pub is_file_scope : List MessageType → List EnumType → List Service → File → Bool
is_file_scope types enums services f =
    are_types_in types (string_bytes f.package) f.types.items
    && are_enums_in enums (string_bytes f.package) f.enums.items
    && are_services_in services (string_bytes f.package) f.services.items

-- the indices are there once each, and are all below a count
abbrev pub are_each_once : ℕ → List ℕ → Bool
are_each_once count places = nat_eq (length places) count && list_all (λ place. nat_lt place count) places
    && all_pairs (λ a b. not (nat_eq a b)) places

abbrev pub type_places : List TypeId → List ℕ
type_places ids = map (λ (id : TypeId). id.index) ids

abbrev pub enum_places : List EnumId → List ℕ
enum_places ids = map (λ (id : EnumId). id.index) ids

abbrev pub service_places : List ServiceId → List ℕ
service_places ids = map (λ (id : ServiceId). id.index) ids

-- the indices of what files declare, and of what message types do
abbrev pub file_types : List File → List ℕ
file_types files = flat_map (λ (f : File). type_places f.types.items) files

abbrev pub nested_types : List MessageType → List ℕ
nested_types types = flat_map (λ (t : MessageType). type_places t.nested_types.items) types

abbrev pub declared_types : List File → List MessageType → List ℕ
declared_types files types = file_types files ++ nested_types types

abbrev pub file_enums : List File → List ℕ
file_enums files = flat_map (λ (f : File). enum_places f.enums.items) files

abbrev pub nested_enums : List MessageType → List ℕ
nested_enums types = flat_map (λ (t : MessageType). enum_places t.nested_enums.items) types

abbrev pub declared_enums : List File → List MessageType → List ℕ
declared_enums files types = file_enums files ++ nested_enums types

abbrev pub declared_services : List File → List ℕ
declared_services files = flat_map (λ (f : File). service_places f.services.items) files

-- each message type, enum and service is declared once
abbrev pub are_declared_once : List File → List MessageType → (enums services : ℕ) → Bool
are_declared_once files types enums services =
    are_each_once (length types) (declared_types files types) && are_each_once enums (declared_enums files types)
    && are_each_once services (declared_services files)
