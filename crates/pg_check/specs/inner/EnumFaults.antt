-- The first rule that an enum breaks, as the code looks for it.
use Rattle.std.specs.Prelude.{ℕ, Bool, true, false, nat_eq, List, [], ◌∷◌, map, Option, Some, None, string_bytes, if◌then◌else◌}
use Rattle.pg_check.specs.declared.rules.enumeration.DeclaredEnum as code
use Rattle.pg_check.specs.declared.rules.fault.Fault.{Fault}
use Rattle.pg_check.specs.declared.rules.fault.Rule.TheVariants as rules
use Rattle.pg_check.specs.declared.rules.numbers.Keyed.{Keyed}
use Rattle.pg_check.specs.declared.rules.options.Owner.TheVariants as owners
use Rattle.pg_syntax.specs.declared.tree as tree
use Rattle.pg_syntax.specs.declared.tree.EnumPart.TheVariants as parts
use Rattle.pg_check.specs.rules.Enums.{lines, Part, declared, DeclaredEnum}
use Rattle.pg_check.specs.inner.Faults.{broken, declared_fault, earlier, first_fault}
use Rattle.pg_check.specs.inner.NameFaults as names
use Rattle.pg_check.specs.rules.Numbers as numbers
use Rattle.pg_check.specs.inner.NumberFaults as number_faults
use Rattle.pg_check.specs.rules.Options.{in_settings}
use Rattle.pg_check.specs.inner.OptionFaults.{first_bad}
use Rattle.pg_check.specs.inner.ItemFaults.{items_fault}

abbrev pub seen : code.DeclaredEnum → DeclaredEnum
seen d = record {
  keys = d.keys.now;
  names = map names.called d.names.now;
  items = d.items.now;
  reserved_names = map string_bytes d.reserved_names.now;
  has_aliases = d.has_aliases;
}

-- the first value, where it isn't 0
abbrev pub first_not_zero : List Keyed → Option ℕ
first_not_zero [] = None
first_not_zero (k ∷ ks) = if nat_eq k.key (numbers.rank false 0) then None else Some k.at

-- the first value with the number of one before it
abbrev pub first_alias : Bool → List Keyed → Option ℕ
first_alias true ks = None
first_alias false ks = number_faults.first_twice ks

-- the enum itself, where it has no value
abbrev pub empty_at : ℕ → List Keyed → Option ℕ
empty_at place [] = Some place
empty_at place (k ∷ ks) = None

abbrev pub value_option : tree.EnumValue.EnumValue → Option Fault
value_option v = declared_fault rules.BadOption v.name.span.from (first_bad (in_settings owners.EnumValue v.settings))

abbrev pub part_option : Part → Option Fault
part_option (parts.Empty span) = None
part_option (parts.Option o) = None
part_option (parts.Reserved r) = None
part_option (parts.Value v) = value_option v

abbrev pub options_fault : List Part → Option Fault
options_fault body = earlier (broken rules.BadOption (first_bad (lines body))) (first_fault part_option body)

-- the first rule that the values and the reserved items of an enum break, which is declared at that byte
abbrev pub values_fault : ℕ → DeclaredEnum → Option Fault
values_fault at d =
    earlier (broken rules.EnumEmpty (empty_at at d.keys))
    (earlier (broken rules.BadNumber (number_faults.first_outside numbers.lowest_value numbers.highest_value d.keys))
    (earlier (broken rules.ReservedNumber (number_faults.first_reserved d.items d.keys))
    (earlier (broken rules.ReservedName (names.first_among d.reserved_names d.names))
    (earlier (items_fault numbers.lowest_value numbers.highest_value d.items)
    (earlier (broken rules.EnumFirstNotZero (first_not_zero d.keys))
    (broken rules.EnumAlias (first_alias d.has_aliases d.keys)))))))

-- the first rule that an enum breaks
abbrev pub enum_fault : tree.Enum.Enum → Option Fault
enum_fault e = earlier (values_fault e.name.span.from (declared e.parts.items)) (options_fault e.parts.items)
