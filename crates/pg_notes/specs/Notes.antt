-- What `compatible` doesn't promise: of each message type, enum and service that is in the old schema.
use Rattle.std.specs.Prelude.{ℕ, List, [], ◌++◌, flat_map, Option, Some, None, slice_get, string_bytes}
use Rattle.std.specs.List.{enumerate_from}
use Rattle.pg_schema.specs.declared.parts.enum_type.EnumType.{EnumType}
use Rattle.pg_schema.specs.declared.parts.message_type.MessageType.{MessageType}
use Rattle.pg_schema.specs.declared.parts.Parts.{Parts}
use Rattle.pg_schema.specs.declared.parts.service.Service.{Service}
use Rattle.pg_notes.specs.EnumNotes.{enum_notes}
use Rattle.pg_notes.specs.FieldNotes.{pair_notes}
use Rattle.pg_notes.specs.Named.{place_of}
use Rattle.pg_notes.specs.ServiceNotes.{gone_notes, service_notes}
use Rattle.pg_notes.specs.declared.note.Note.{Note}

abbrev pub message_name : MessageType → List ℕ
message_name t = string_bytes t.name

abbrev pub enum_name : EnumType → List ℕ
enum_name e = string_bytes e.name

abbrev pub service_name : Service → List ℕ
service_name s = string_bytes s.name

-- the old message type at an index, and the index of the new one of its full name: nothing where there is none
abbrev pub type_beside : Parts → ℕ → MessageType → Option ℕ → List Note
type_beside new index t None = []
type_beside new index t (Some now) =
    pair_notes (record { old = record { index = index }; new = record { index = now } }) t.fields.items
    (slice_get new.types.items now)

abbrev pub enum_beside : Parts → ℕ → EnumType → Option ℕ → List Note
enum_beside new index e None = []
enum_beside new index e (Some now) =
    enum_notes (record { old = record { index = index }; new = record { index = now } }) e.values.items
    (slice_get new.enums.items now)

-- of a service without a new one each method went
abbrev pub service_beside : Parts → Parts → ℕ → Service → Option ℕ → List Note
service_beside old new index s None = gone_notes (record { index = index }) s.methods.items
service_beside old new index s (Some now) =
    service_notes old new (record { old = record { index = index }; new = record { index = now } }) s.methods.items
    (slice_get new.services.items now)

abbrev pub type_notes : Parts → Parts → List Note
type_notes old new =
    flat_map (λ at. type_beside new at.0 at.1 (place_of message_name new.types.items (message_name at.1)))
    (enumerate_from 0 old.types.items)

abbrev pub all_enum_notes : Parts → Parts → List Note
all_enum_notes old new =
    flat_map (λ at. enum_beside new at.0 at.1 (place_of enum_name new.enums.items (enum_name at.1)))
    (enumerate_from 0 old.enums.items)

abbrev pub all_service_notes : Parts → Parts → List Note
all_service_notes old new =
    flat_map (λ at. service_beside old new at.0 at.1 (place_of service_name new.services.items (service_name at.1)))
    (enumerate_from 0 old.services.items)

-- all that is told: of message types, then of enums, then of services, each in the old order
abbrev pub notes : Parts → Parts → List Note
notes old new = type_notes old new ++ all_enum_notes old new ++ all_service_notes old new
