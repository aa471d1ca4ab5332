-- The rules of a whole file (proto3 language specification, "Option", "Service definition", "Proto file"). That there
-- are at most 4,096 message types is this profile's choice.
use Rattle.std.specs.Prelude.{List, [], ◌∷◌, ◌++◌, flat_map, Option, Some, None, Vec}
use Rattle.std.specs.declared.alloc.Global.{Global}
use Rattle.pg_check.specs.declared.rules.options.Owner.TheVariants as owners
use Rattle.pg_syntax.specs.declared.tree as tree
use Rattle.pg_syntax.specs.declared.tree.RpcPart.TheVariants as rpc_parts
use Rattle.pg_syntax.specs.declared.tree.ServicePart.TheVariants as service_parts
use Rattle.pg_syntax.specs.declared.tree.Statement.TheVariants as statements
use Rattle.pg_check.specs.rules.Options.{OptionAt, in_line}
use Rattle.pg_check.specs.rules.Outline.{statements_behind}

-- ---- services

abbrev pub rpc_line : tree.RpcPart.RpcPart → List OptionAt
rpc_line (rpc_parts.Empty span) = []
rpc_line (rpc_parts.Option o) = in_line owners.Method o ∷ []

abbrev pub rpc_body : Option (Vec tree.RpcPart.RpcPart Global) → List tree.RpcPart.RpcPart
rpc_body None = []
rpc_body (Some body) = body.items

abbrev pub rpc_lines : List tree.RpcPart.RpcPart → List OptionAt
rpc_lines body = flat_map rpc_line body

abbrev pub service_line : tree.ServicePart.ServicePart → List OptionAt
service_line (service_parts.Empty span) = []
service_line (service_parts.Option o) = in_line owners.Service o ∷ []
service_line (service_parts.Rpc r) = []

abbrev pub service_lines : List tree.ServicePart.ServicePart → List OptionAt
service_lines body = flat_map service_line body

-- ---- files

abbrev pub file_line : tree.Statement.Statement → List OptionAt
file_line (statements.Empty span) = []
file_line (statements.Import i) = []
file_line (statements.Option o) = in_line owners.File o ∷ []
file_line (statements.Message m) = []
file_line (statements.Enum e) = []
file_line (statements.Service s) = []

abbrev pub file_lines : tree.FileTree.FileTree → List OptionAt
file_lines file = flat_map file_line file.statements.items ++ flat_map file_line (statements_behind file.packaged)
