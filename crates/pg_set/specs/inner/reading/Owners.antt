-- What names mean, and what the fields of a message type are made with, as the program keeps it.
use Rattle.std.specs.Prelude.{Option, Some, None, ℕ, List, String, option_map}
use Rattle.std.specs.HashMap.{get_by_text}
use Rattle.std.specs.BTreeMap.{BTreeMap}
use Rattle.std.specs.BTreeMap as tree
use Rattle.pg_set.specs.declared.reading.outline.Named.{Named}
use Rattle.pg_set.specs.inner.Declarations.{NameTable}
use Rattle.pg_set.specs.stated.StatedNames.{NameLookup}
use Rattle.pg_dyn.specs.message.Kept.{Kept, message_of}
use Rattle.pg_dyn.specs.message.Message.{Message}
use Rattle.pg_set.specs.declared.reading.made_fields.Scope.{Scope}
use Rattle.pg_set.specs.stated.StatedFields.{Owner}
use Rattle.pg_set.specs.declared.reading.outline.Named.TheVariants as nameds

-- What a field or a method may name. Names of packages, fields, oneofs, values and services are there only so that they
-- occur once.
abbrev pub may_name : Option Named → Option Named
may_name None = None
may_name (Some nameds.Package) = None
may_name (Some (nameds.Type id)) = Some (nameds.Type id)
may_name (Some (nameds.Enum id)) = Some (nameds.Enum id)
may_name (Some nameds.Entry) = Some nameds.Entry
may_name (Some nameds.Other) = None

-- of the names in a table
abbrev pub means_of : {Y : Type 0} → NameTable Y → NameLookup
means_of names name = may_name (get_by_text names name)

-- the message of that name
abbrev pub message_in : {Y : Type 0} → BTreeMap (String Y) Kept → List ℕ → Option Message
message_in entries name = option_map message_of (tree.get_by_text entries name)

abbrev pub owner_of : Scope → Owner
owner_of s = record { full = s.name.now; synthetic = s.synthetic; members = s.members.items; entries = message_in s.entries }
