-- The first rule that a message's own body breaks, as the code looks for it.
use Rattle.std.specs.Prelude.{ℕ, Bool, not, List, Option, Some, None, if◌then◌else◌}
use Rattle.pg_link.specs.declared.uses.target.Target.{Target}
use Rattle.pg_check.specs.declared.rules.fault.Fault.{Fault}
use Rattle.pg_check.specs.declared.rules.fault.Rule.TheVariants as rules
use Rattle.pg_check.specs.declared.rules.numbers.Keyed.{Keyed}
use Rattle.pg_check.specs.declared.rules.numbers.Numbers.{Numbers}
use Rattle.pg_check.specs.declared.rules.options.Owner.TheVariants as owners
use Rattle.pg_syntax.specs.declared.tree as tree
use Rattle.pg_syntax.specs.declared.tree.OneofPart.TheVariants as oneof_parts
use Rattle.pg_syntax.specs.declared.tree.Part.{Part}
use Rattle.pg_check.specs.inner.Faults.{broken, declared_fault, earlier, or_else, first_fault}
use Rattle.pg_check.specs.rules.Members.{DeclaredField, members, place_of, settings, settings_of}
use Rattle.pg_check.specs.rules.Messages.{items, lines, is_bad_member, declared, DeclaredMessage, states_packed, oneofs, may_be_packed, has_member, has_bad_key}
use Rattle.pg_check.specs.inner.NameFaults as names
use Rattle.pg_check.specs.rules.Names.{Named}
use Rattle.pg_check.specs.rules.Numbers as numbers
use Rattle.pg_check.specs.inner.NumberFaults as number_faults
use Rattle.pg_check.specs.rules.Options.{in_settings}
use Rattle.pg_check.specs.inner.OptionFaults.{first_bad}
use Rattle.pg_check.specs.inner.ItemFaults.{items_fault}

-- a oneof has a member
abbrev pub empty_oneof : tree.Oneof.Oneof → Option Fault
empty_oneof o = broken rules.BadOneofMember (if has_member o.parts.items then None else Some o.name.span.from)

abbrev pub oneof_option : tree.OneofPart.OneofPart → Option Fault
oneof_option (oneof_parts.Empty span) = None
oneof_option (oneof_parts.Option o) = broken rules.BadOption (Some o.span.from)
oneof_option (oneof_parts.Map m) = None
oneof_option (oneof_parts.Field f) = None

-- no option is in a oneof
abbrev pub oneof_fault : tree.Oneof.Oneof → Option Fault
oneof_fault o = or_else (empty_oneof o) (first_fault oneof_option o.parts.items)

-- the first number that no field may have
abbrev pub first_bad_number : List Keyed → Option ℕ
first_bad_number keys =
    number_faults.first_such (λ (k : Keyed). not (numbers.is_field_number k.key)) number_faults.at keys

abbrev pub first_member : (DeclaredField → Bool) → List DeclaredField → Option ℕ
first_member test ms = number_faults.first_such test place_of ms

abbrev pub member_option : DeclaredField → Option Fault
member_option m = declared_fault rules.BadOption (place_of m) (first_bad (in_settings owners.Field (settings_of m)))

-- the offset of the first `packed = true`
abbrev pub first_packed : List tree.Setting.Setting → Option ℕ
first_packed list = number_faults.first_such states_packed (λ (s : tree.Setting.Setting). s.span.from) list

abbrev pub member_packed : (ℕ → Option Target) → DeclaredField → Option Fault
member_packed targets m = if may_be_packed targets m then None
    else declared_fault rules.PackedNotAllowed (place_of m) (first_packed (settings (settings_of m)))

abbrev pub numbers_fault : List Keyed → List Numbers → Option Fault
numbers_fault keys items =
    earlier (broken rules.BadNumber (first_bad_number keys))
    (earlier (broken rules.DuplicateNumber (number_faults.first_twice keys))
    (earlier (broken rules.ReservedNumber (number_faults.first_reserved items keys))
    (items_fault numbers.lowest_field numbers.highest_field items)))

abbrev pub names_fault : List (List ℕ) → (called json_names : List Named) → Option Fault
names_fault reserved called json_names =
    earlier (broken rules.ReservedName (names.first_among reserved called))
    (broken rules.JsonNameClash (names.first_twice json_names))

-- the first rule that numbers, names and reserved items break
abbrev pub fields_fault : DeclaredMessage → Option Fault
fields_fault d = earlier (numbers_fault d.keys d.items) (names_fault d.reserved_names d.names d.json_names)

abbrev pub shapes_fault : (ℕ → Option Target) → List DeclaredField → Option Fault
shapes_fault targets ms =
    earlier (broken rules.BadMapKey (first_member has_bad_key ms))
    (earlier (broken rules.BadOneofMember (first_member is_bad_member ms))
    (earlier (first_fault member_option ms) (first_fault (member_packed targets) ms)))

abbrev pub parts_fault : List Part → Option Fault
parts_fault body = earlier (broken rules.BadOption (first_bad (lines body))) (first_fault oneof_fault (oneofs body))

-- The first rule that a message's own body breaks, without the messages and enums in it. `targets` says what the type
-- name that begins at a byte of the file names.
abbrev pub body_fault : (ℕ → Option Target) → List Part → Option Fault
body_fault targets body =
    earlier (fields_fault (declared body)) (earlier (shapes_fault targets (members body)) (parts_fault body))
