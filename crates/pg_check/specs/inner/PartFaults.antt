-- The rules that parts break which come from no source file: those of files, all at no position. Reported is the first
-- that breaks one of the message types in their order, then the enums and the files, and of it the rule of the lowest
-- code. More message types than may be come before all. That is this profile's choice.
use Rattle.std.specs.Prelude.{◌≡◌, ℕ, Bool, true, false, nat_le, ◌&&◌, List, map, length, Option, Some, None}
use Rattle.std.specs.BTreeSet.{BTreeSet, contains}
use Rattle.std.specs.List.{list_all, list_any}
use Rattle.std.specs.Ordering.{nat_cmp}
use Rattle.pg_schema.specs.declared.parts.enum_type.EnumType.{EnumType}
use Rattle.pg_schema.specs.declared.parts.field.Field.{Field}
use Rattle.pg_schema.specs.declared.parts.file.File.{File}
use Rattle.pg_schema.specs.declared.parts.message_type.MessageType.{MessageType}
use Rattle.pg_schema.specs.declared.parts.Parts.{Parts}
use Rattle.pg_schema.specs.rules.Files.{is_file_option}
use Rattle.pg_schema.specs.rules.Messages.{have_members, is_member}
use Rattle.pg_check.specs.admitting.DeclaredParts.{declared_enum, declared_message, nowhere, option_key}
use Rattle.pg_check.specs.admitting.KeepsParts.{field_has_key, is_packed_rightly, may_be_member}
use Rattle.pg_check.specs.declared.rules.fault.Fault.{Fault}
use Rattle.pg_check.specs.declared.rules.fault.Rule.{Rule}
use Rattle.pg_check.specs.declared.rules.fault.Rule.TheVariants as rules
use Rattle.pg_check.specs.inner.EnumFaults as enums
use Rattle.pg_check.specs.inner.Faults.{broken, earlier, first_fault, or_else}
use Rattle.pg_check.specs.inner.MessageFaults as messages
use Rattle.pg_check.specs.inner.NumberFaults as numbers

-- where the rule is broken, as this doesn't hold: at no position
abbrev pub where_not : Bool → Option ℕ
where_not true = None
where_not false = Some nowhere

abbrev pub fault_unless : Rule → Bool → Option Fault
fault_unless rule holds = broken rule (where_not holds)

-- ---- message types

-- the set has the indexes of just those oneofs that have a member
abbrev pub IsPlaceSet : List Field → BTreeSet ℕ → Type 0
IsPlaceSet fields set = (place : ℕ) → contains nat_cmp set place ≡ list_any (is_member place) fields

-- each member may be one, and each oneof has one
abbrev pub has_oneofs : MessageType → Bool
has_oneofs t = list_all may_be_member t.fields.items && have_members (length t.oneofs.items) t.fields.items

abbrev pub shapes_fault : MessageType → Option Fault
shapes_fault t =
    earlier (fault_unless rules.BadMapKey (list_all field_has_key t.fields.items))
    (earlier (fault_unless rules.BadOneofMember (has_oneofs t))
    (fault_unless rules.PackedNotAllowed (list_all is_packed_rightly t.fields.items)))

abbrev pub message_fault : MessageType → Option Fault
message_fault t = earlier (messages.fields_fault (declared_message t)) (shapes_fault t)

-- ---- enums

abbrev pub enum_fault : EnumType → Option Fault
enum_fault e = enums.values_fault nowhere (declared_enum e)

-- ---- files

-- an option that is unknown, of a wrong kind, or given twice
abbrev pub file_fault : File → Option Fault
file_fault f =
    earlier (fault_unless rules.BadOption (list_all is_file_option f.options.items))
    (broken rules.BadOption (numbers.first_twice (map option_key f.options.items)))

-- ---- all parts

abbrev pub types_fault : List MessageType → Option Fault
types_fault types =
    or_else (fault_unless rules.TooManyTypes (nat_le (length types) 4096)) (first_fault message_fault types)

-- the first rule that the parts break
abbrev pub parts_fault : Parts → Option Fault
parts_fault parts =
    or_else (types_fault parts.types.items)
    (or_else (first_fault enum_fault parts.enums.items) (first_fault file_fault parts.files.items))
