-- What is told of the methods of a service. A client of the old schema calls a method by the service's full name and the
-- method's name (proto3 language guide, "Defining Services"; gRPC over HTTP/2, "Requests").
use Rattle.std.specs.Prelude.{ℕ, Bool, not, ◌&&◌, List, [], ◌∷◌, flat_map, Option, Some, None, slice_get, string_bytes, unwrap_or, if◌then◌else◌}
use Rattle.std.specs.List.{enumerate_from}
use Rattle.std.specs.Str.{bytes_eq}
use Rattle.pg_schema.specs.declared.parts.field.TypeId.{TypeId}
use Rattle.pg_schema.specs.declared.parts.Parts.{Parts}
use Rattle.pg_schema.specs.declared.parts.service.Method.{Method}
use Rattle.pg_schema.specs.declared.parts.service.Service.{Service}
use Rattle.pg_schema.specs.declared.parts.service.ServiceId.{ServiceId}
use Rattle.pg_schema.specs.Parts.{name_at}
use Rattle.pg_notes.specs.Named.{place_of}
use Rattle.pg_notes.specs.declared.note.Note.{Note}
use Rattle.pg_notes.specs.declared.note.Note.TheVariants.{MethodChanged, MethodGone}
use Rattle.pg_notes.specs.declared.note.ServicePair.{ServicePair}

abbrev pub method_name : Method → List ℕ
method_name m = string_bytes m.name

-- the full name of a message type
abbrev pub type_name : Parts → TypeId → List ℕ
type_name parts id = unwrap_or (name_at parts.types.items id) []

abbrev pub bool_eq : Bool → Bool → Bool
bool_eq a b = if a then b else not b

-- a call sends and answers messages of the same full names, and the same of both are streams
abbrev pub is_same_call : Parts → Parts → Method → Method → Bool
is_same_call old new m n =
    bytes_eq (type_name old m.input) (type_name new n.input)
    && bytes_eq (type_name old m.output) (type_name new n.output)
    && bool_eq m.client_streaming n.client_streaming && bool_eq m.server_streaming n.server_streaming

-- the new service has the method at that index
abbrev pub changed : Parts → Parts → ServicePair → ℕ → Method → ℕ → Option Method → List Note
changed old new services index m now None = []
changed old new services index m now (Some n) =
    if is_same_call old new m n then [] else MethodChanged services index now ∷ []

-- the new service has these methods, and the method of the name at that index
abbrev pub found : Parts → Parts → ServicePair → List Method → ℕ → Method → Option ℕ → List Note
found old new services methods index m None = MethodGone services.old index (Some services.new) ∷ []
found old new services methods index m (Some now) =
    changed old new services index m now (slice_get methods now)

-- what is told of the old method at that index, beside the methods of the new service
abbrev pub method_notes : Parts → Parts → ServicePair → List Method → ℕ → Method → List Note
method_notes old new services methods index m =
    found old new services methods index m (place_of method_name methods (method_name m))

-- what is told of a service that went: each method went
abbrev pub gone_notes : ServiceId → List Method → List Note
gone_notes service methods = flat_map (λ at. MethodGone service at.0 None ∷ []) (enumerate_from 0 methods)

-- what is told of the old methods, in order: nothing where there is no new service at the index
abbrev pub service_notes : Parts → Parts → ServicePair → List Method → Option Service → List Note
service_notes old new services methods None = []
service_notes old new services methods (Some s) =
    flat_map (λ at. method_notes old new services s.methods.items at.0 at.1) (enumerate_from 0 methods)
