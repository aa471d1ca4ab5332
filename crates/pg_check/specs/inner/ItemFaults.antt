-- The first reserved item that breaks a rule, as the code looks for it.
use Rattle.std.specs.Prelude.{ℕ, not, nat_lt, ◌&&◌, List, [], Option}
use Rattle.pg_check.specs.declared.rules.fault.Fault.{Fault}
use Rattle.pg_check.specs.declared.rules.fault.Rule.TheVariants as rules
use Rattle.pg_check.specs.declared.rules.numbers.Numbers.{Numbers}
use Rattle.pg_check.specs.inner.Faults.{broken, earlier}
use Rattle.pg_check.specs.rules.Numbers.{is_within}
use Rattle.pg_check.specs.inner.NumberFaults.{first_such, first_again}
use Rattle.pg_check.specs.rules.ReservedItems.{overlap}

abbrev pub at : Numbers → ℕ
at r = r.at

-- the first item with an end that isn't from the lowest to the highest
abbrev pub first_beyond : (lowest highest : ℕ) → List Numbers → Option ℕ
first_beyond lowest highest items =
    first_such (λ (r : Numbers). not (is_within lowest highest r.first && is_within lowest highest r.last)) at items

-- the first item that ends before it begins
abbrev pub first_falling : List Numbers → Option ℕ
first_falling items = first_such (λ (r : Numbers). nat_lt r.last r.first) at items

-- the first item that has a number of one before it
abbrev pub first_overlapping : List Numbers → Option ℕ
first_overlapping items = first_again overlap at [] items

-- the first rule that reserved items break
abbrev pub items_fault : (lowest highest : ℕ) → List Numbers → Option Fault
items_fault lowest highest items =
    earlier (broken rules.BadNumber (first_beyond lowest highest items))
    (earlier (broken rules.RangeOverlap (first_falling items)) (broken rules.RangeOverlap (first_overlapping items)))
