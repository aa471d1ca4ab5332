-- Where a broken rule is found, by small examples, with offsets for positions.
use Rattle.std.specs.Prelude.{◌≡◌, ◌≤◌, ℕ, true, false, List, [], ◌∷◌, ◌++◌, codes, length, Option, Some, None}
use Rattle.pg_check.specs.declared.rules.fault.Fault.{Fault}
use Rattle.pg_check.specs.declared.rules.fault.Rule.{Rule}
use Rattle.pg_check.specs.declared.rules.fault.Rule.TheVariants as rules
use Rattle.pg_check.specs.Examples.{field, item, name, stated}
use Rattle.pg_check.specs.inner.EnumFaults as enums
use Rattle.pg_check.specs.inner.Faults.{broken_at, earlier, option_fault}
use Rattle.pg_check.specs.inner.FileFaults.{too_many}
use Rattle.pg_check.specs.inner.MessageFaults.{numbers_fault}
use Rattle.pg_check.specs.inner.NameFaults as names
use Rattle.pg_check.specs.inner.OptionFaults.{first_bad}
use Rattle.pg_check.specs.rules.Outline.{Message}

abbrev pub reported : Rule → ℕ → Option Fault
reported rule at = Some (broken_at rule at)

pub record WorkedFaults : Type 0 where
  pub beyond : numbers_fault (field 536870912 18 ∷ []) [] ≡ reported rules.BadNumber 18
  pub number_twice : numbers_fault (field 1 24 ∷ field 1 31 ∷ []) [] ≡ reported rules.DuplicateNumber 31
  pub reserved_number : numbers_fault (field 3 35 ∷ []) (item 2 4 21 ∷ []) ≡ reported rules.ReservedNumber 35
  pub ends_are_reserved : numbers_fault (field 4 35 ∷ []) (item 2 4 21 ∷ []) ≡ reported rules.ReservedNumber 35
  pub beside_the_item : numbers_fault (field 5 35 ∷ []) (item 2 4 21 ∷ []) ≡ None
  pub reserved_behind : numbers_fault (field 3 18 ∷ []) (item 2 4 30 ∷ []) ≡ reported rules.ReservedNumber 18
  pub overlapping : numbers_fault [] (item 1 3 21 ∷ item 3 3 29 ∷ []) ≡ reported rules.RangeOverlap 29
  pub falling : numbers_fault [] (item 5 2 21 ∷ []) ≡ reported rules.RangeOverlap 21
  pub falling_holds_none : numbers_fault (field 3 18 ∷ []) (item 5 2 30 ∷ []) ≡ reported rules.RangeOverlap 30
  pub lowest_code : numbers_fault (field 0 24 ∷ field 0 31 ∷ []) [] ≡ reported rules.BadNumber 24
  pub reserved_name : names.first_among (codes "a" ∷ []) (name (codes "b") 20 ∷ name (codes "a") 32 ∷ []) ≡ Some 32
  pub json_name_twice : names.first_twice (name (codes "fooBar") 18 ∷ name (codes "fooBar") 37 ∷ []) ≡ Some 37
  pub json_names_by_case : names.first_twice (name (codes "A") 18 ∷ name (codes "a") 37 ∷ []) ≡ None
  pub first_value_one : enums.first_not_zero (field 1 21 ∷ []) ≡ Some 21
  pub first_value_zero : enums.first_not_zero (field 0 21 ∷ field 1 28 ∷ []) ≡ None
  pub alias : enums.first_alias false (field 0 21 ∷ field 0 28 ∷ []) ≡ Some 28
  pub alias_allowed : enums.first_alias true (field 0 21 ∷ field 0 28 ∷ []) ≡ None
  pub no_value : enums.empty_at 17 [] ≡ Some 17
  pub wrong_option : first_bad (stated (codes "ctype") false 25 ∷ []) ≡ Some 25
  pub option_twice :
      first_bad (stated (codes "deprecated") true 12 ∷ stated (codes "deprecated") true 38 ∷ []) ≡ Some 38
  pub option_before_packed :
      earlier (Some (option_fault rules.PackedNotAllowed 19 26)) (Some (option_fault rules.BadOption 19 41))
      ≡ Some (option_fault rules.BadOption 19 41)
  pub first_in_text : earlier (reported rules.BadOption 12) (reported rules.BadNumber 30) ≡ reported rules.BadOption 12
  -- of so many message types none is one too many, and of more the one after them is
  pub so_many_types : (left : ℕ) (ms : List Message) → length ms ≤ left → too_many left ms ≡ None
  pub one_type_more : (ms : List Message) (m : Message) (more : List Message)
      → too_many (length ms) (ms ++ m ∷ more) ≡ Some m.name.span.from
