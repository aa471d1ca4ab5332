-- Rules that are broken, and which of them is reported. That it is the first in the file, and of one declaration the
-- one that comes first among the rules, is this profile's choice.
use Rattle.std.specs.Prelude.{ℕ, Bool, true, false, nat_lt, nat_le, nat_eq, ◌&&◌, ◌||◌, List, [], ◌∷◌, Option, Some, None}
use Rattle.std.specs.Option.{option_map}
use Rattle.pg_check.specs.declared.rules.fault.Fault.{Fault}
use Rattle.pg_check.specs.declared.rules.fault.Rule.{Rule}
use Rattle.pg_check.specs.declared.rules.fault.Rule.TheVariants as rules

-- the rules in their order
abbrev pub order : Rule → ℕ
order rules.BadNumber = 401
order rules.DuplicateNumber = 402
order rules.ReservedNumber = 403
order rules.ReservedName = 404
order rules.RangeOverlap = 405
order rules.JsonNameClash = 406
order rules.BadMapKey = 407
order rules.BadOneofMember = 408
order rules.EnumFirstNotZero = 409
order rules.EnumAlias = 410
order rules.BadOption = 411
order rules.PackedNotAllowed = 412
order rules.TooManyTypes = 413
order rules.EnumEmpty = 414

-- one fault comes before another: its declaration does, or in one declaration its rule does
abbrev pub is_before : Fault → Fault → Bool
is_before f g = nat_lt f.declared g.declared || (nat_eq f.declared g.declared && nat_le (order f.rule) (order g.rule))

abbrev pub chosen : Bool → Fault → Fault → Fault
chosen true f g = f
chosen false f g = g

-- the one of two that comes first
abbrev pub earlier : Option Fault → Option Fault → Option Fault
earlier None other = other
earlier (Some f) None = Some f
earlier (Some f) (Some g) = Some (chosen (is_before f g) f g)

-- the rule is broken by the declaration whose name is there
abbrev pub broken_at : Rule → ℕ → Fault
broken_at rule at = record { rule = rule; declared = at; at = at }

abbrev pub broken : Rule → Option ℕ → Option Fault
broken rule place = option_map (broken_at rule) place

-- the rule is broken by a declaration, at an option of it
abbrev pub option_fault : Rule → ℕ → ℕ → Fault
option_fault rule declared at = record { rule = rule; declared = declared; at = at }

abbrev pub declared_fault : Rule → ℕ → Option ℕ → Option Fault
declared_fault rule declared place = option_map (option_fault rule declared) place

abbrev pub or_else : Option Fault → Option Fault → Option Fault
or_else None other = other
or_else (Some f) other = Some f

-- the fault of the first that has one
abbrev pub first_fault : {X : Type 0} → (X → Option Fault) → List X → Option Fault
first_fault fault [] = None
first_fault fault (x ∷ xs) = or_else (fault x) (first_fault fault xs)

-- the first in the file of a fault that was found and those of a list
abbrev pub earliest : {X : Type 0} → (X → Option Fault) → Option Fault → List X → Option Fault
earliest fault found [] = found
earliest fault found (x ∷ xs) = earliest fault (earlier found (fault x)) xs
