-- The first rule that a file breaks, as the code looks for it.
use Rattle.std.specs.Option.{option_map}
use Rattle.std.specs.Prelude.{ℕ, List, Option, None, slice_get}
use Rattle.pg_link.specs.declared.uses.target.Target.{Target}
use Rattle.pg_check.specs.declared.rules.fault.Fault.{Fault}
use Rattle.pg_check.specs.declared.rules.fault.Rule.TheVariants as rules
use Rattle.pg_syntax.specs.declared.tree as tree
use Rattle.pg_syntax.specs.declared.tree.ServicePart.TheVariants as service_parts
use Rattle.pg_syntax.specs.declared.tree.Statement.TheVariants as statements
use Rattle.pg_check.specs.inner.EnumFaults.{enum_fault}
use Rattle.pg_check.specs.inner.Faults.{broken, earlier, earliest, first_fault}
use Rattle.pg_check.specs.rules.Files.{service_lines, rpc_lines, rpc_body, file_lines}
use Rattle.pg_check.specs.inner.MessageFaults.{body_fault}
use Rattle.pg_check.specs.inner.OptionFaults.{first_bad}
use Rattle.pg_check.specs.rules.Outline.{Enum, Message, file_messages, scoped_enums, statements_behind}

abbrev pub rpc_fault : tree.Rpc.Rpc → Option Fault
rpc_fault r = broken rules.BadOption (first_bad (rpc_lines (rpc_body r.body)))

abbrev pub part_fault : tree.ServicePart.ServicePart → Option Fault
part_fault (service_parts.Empty span) = None
part_fault (service_parts.Option o) = None
part_fault (service_parts.Rpc r) = rpc_fault r

abbrev pub service_fault : tree.Service.Service → Option Fault
service_fault s =
    earlier (broken rules.BadOption (first_bad (service_lines s.parts.items))) (first_fault part_fault s.parts.items)

abbrev pub statement_fault : tree.Statement.Statement → Option Fault
statement_fault (statements.Empty span) = None
statement_fault (statements.Import i) = None
statement_fault (statements.Option o) = None
statement_fault (statements.Message m) = None
statement_fault (statements.Enum e) = None
statement_fault (statements.Service s) = service_fault s

-- the message type after so many, which is one too many
abbrev pub too_many : ℕ → List Message → Option ℕ
too_many left messages = option_map (λ (m : Message). m.name.span.from) (slice_get messages left)

abbrev pub message_fault : (ℕ → Option Target) → Message → Option Fault
message_fault targets m = body_fault targets m.body

abbrev pub found_fault : Enum → Option Fault
found_fault e = enum_fault e.tree

abbrev pub types_fault : (ℕ → Option Target) → ℕ → List Message → List Enum → Option Fault
types_fault targets left messages enums =
    earlier (broken rules.TooManyTypes (too_many left messages))
    (earlier (earliest (message_fault targets) None messages) (earliest found_fault None enums))

-- service by service, and the file's own options
abbrev pub statements_fault : tree.FileTree.FileTree → Option Fault
statements_fault file =
    earlier (broken rules.BadOption (first_bad (file_lines file)))
    (earlier (first_fault statement_fault file.statements.items)
    (first_fault statement_fault (statements_behind file.packaged)))

-- The first rule that a file breaks, where so many more message types may come. `targets` says what the type name that
-- begins at a byte of the file names.
abbrev pub file_fault : (ℕ → Option Target) → ℕ → tree.FileTree.FileTree → Option Fault
file_fault targets left file =
    earlier (types_fault targets left (file_messages file) (scoped_enums file)) (statements_fault file)
