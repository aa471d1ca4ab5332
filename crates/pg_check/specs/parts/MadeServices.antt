-- What a service declares, as a schema has it (proto3 language specification, "Service definition").
use Rattle.std.specs.Prelude.{ℕ, ◌+◌, Bool, List, [], ◌∷◌, map, flat_map, codes, Option, Some, None, string_bytes}
use Rattle.pg_schema.specs.declared.parts.field.TypeId.{TypeId}
use Rattle.pg_schema.specs.declared.parts.options.MethodOptions.{MethodOptions}
use Rattle.pg_schema.specs.declared.parts.options.ServiceOptions.{ServiceOptions}
use Rattle.pg_schema.specs.declared.parts.service.Method as methods
use Rattle.pg_schema.specs.declared.parts.service.Service as services
use Rattle.pg_schema.specs.declared.parts.service.ServiceId.{ServiceId}
use Rattle.pg_link.specs.declared.uses.target.Target.{Target}
use Rattle.pg_link.specs.declared.uses.target.Target.TheVariants as targets
use Rattle.pg_check.specs.rules.Files.{rpc_body}
use Rattle.pg_check.specs.parts.MadeNumbers.{index_of}
use Rattle.pg_check.specs.parts.MadeOptions.{flag_of}
use Rattle.pg_check.specs.rules.Outline.{full_name}
use Rattle.pg_syntax.specs.declared.tree as tree
use Rattle.pg_syntax.specs.declared.tree.RpcPart.TheVariants as rpc_parts
use Rattle.pg_syntax.specs.declared.tree.ServicePart.TheVariants as parts
use Rattle.pg_syntax.specs.declared.tree.Statement.TheVariants as statements

pub record MadeMethod : Type 0 where
  pub name : List ℕ
  pub input : TypeId
  pub output : TypeId
  pub client_streaming : Bool
  pub server_streaming : Bool
  pub options : MethodOptions

pub record MadeService : Type 0 where
  pub name : List ℕ
  pub methods : List MadeMethod
  pub options : ServiceOptions

abbrev pub method : methods.Method → MadeMethod
method m = record {
  name = string_bytes m.name;
  input = m.input;
  output = m.output;
  client_streaming = m.client_streaming;
  server_streaming = m.server_streaming;
  options = m.options;
}

abbrev pub service : services.Service → MadeService
service s = record { name = string_bytes s.name; methods = map method s.methods.items; options = s.options }

-- ---- methods

-- The message type that is named. A name that names none comes to the first; linked files have no such.
abbrev pub message_at : Option Target → TypeId
message_at None = record { index = 0 }
message_at (Some (targets.Message n)) = record { index = index_of n }
message_at (Some (targets.Enum n)) = record { index = 0 }

abbrev pub rpc_setting : tree.RpcPart.RpcPart → List tree.Setting.Setting
rpc_setting (rpc_parts.Empty span) = []
rpc_setting (rpc_parts.Option o) = o.setting ∷ []

abbrev pub rpc_flag : List tree.RpcPart.RpcPart → Option Bool
rpc_flag body = flag_of (codes "deprecated") (flat_map rpc_setting body)

abbrev pub made_method : (ℕ → Option Target) → tree.Rpc.Rpc → MadeMethod
made_method targets r = record {
  name = string_bytes r.name.text;
  input = message_at (targets r.input.type_name.span.from);
  output = message_at (targets r.output.type_name.span.from);
  client_streaming = r.input.is_stream;
  server_streaming = r.output.is_stream;
  options = record { deprecated = rpc_flag (rpc_body r.body) };
}

abbrev pub rpc_in : tree.ServicePart.ServicePart → List tree.Rpc.Rpc
rpc_in (parts.Empty span) = []
rpc_in (parts.Option o) = []
rpc_in (parts.Rpc r) = r ∷ []

abbrev pub method_in : (ℕ → Option Target) → tree.ServicePart.ServicePart → List MadeMethod
method_in targets p = map (made_method targets) (rpc_in p)

abbrev pub made_methods : (ℕ → Option Target) → List tree.ServicePart.ServicePart → List MadeMethod
made_methods targets body = flat_map (method_in targets) body

-- ---- services

abbrev pub setting_in : tree.ServicePart.ServicePart → List tree.Setting.Setting
setting_in (parts.Empty span) = []
setting_in (parts.Option o) = o.setting ∷ []
setting_in (parts.Rpc r) = []

abbrev pub service_flag : List tree.ServicePart.ServicePart → Option Bool
service_flag body = flag_of (codes "deprecated") (flat_map setting_in body)

abbrev pub made_service : (ℕ → Option Target) → List ℕ → tree.Service.Service → MadeService
made_service targets scope s = record {
  name = full_name scope s.name;
  methods = made_methods targets s.parts.items;
  options = record { deprecated = service_flag s.parts.items };
}

abbrev pub stated_service : tree.Statement.Statement → List tree.Service.Service
stated_service (statements.Empty span) = []
stated_service (statements.Import i) = []
stated_service (statements.Option o) = []
stated_service (statements.Message m) = []
stated_service (statements.Enum e) = []
stated_service (statements.Service s) = s ∷ []

abbrev pub service_in : (ℕ → Option Target) → List ℕ → tree.Statement.Statement → List MadeService
service_in targets scope s = map (made_service targets scope) (stated_service s)

-- the services of statements, in order of declaration
abbrev pub made_services : (ℕ → Option Target) → List ℕ → List tree.Statement.Statement → List MadeService
made_services targets scope list = flat_map (service_in targets scope) list

-- the indexes of services, where so many come before
abbrev pub service_ids : ℕ → List MadeService → List ServiceId
service_ids before [] = []
service_ids before (s ∷ ss) = record { index = before } ∷ service_ids (before + 1) ss
