-- The first option that breaks a rule, as the code looks for it, and options as the code has them.
use Rattle.std.specs.Borrow.{Bor}
use Rattle.std.specs.Prelude.{ℕ, not, List, map, Option}
use Rattle.pg_check.specs.declared.rules.options.Kind.{Kind}
use Rattle.pg_check.specs.declared.rules.options.Stated as code
use Rattle.pg_check.specs.inner.NameFaults.{first_twice}
use Rattle.pg_check.specs.inner.NumberFaults.{first_such, least}
use Rattle.pg_check.specs.rules.Options.{OptionAt, name_of, named, Entry}

abbrev pub entry : Bor (List ℕ) × ℕ × Kind → Entry
entry o = named o.0.now o.1 o.2

abbrev pub stated : code.Stated → OptionAt
stated s = record { name = s.name.now; is_right = s.is_right; at = s.at }

-- the first that isn't right
abbrev pub first_wrong : List OptionAt → Option ℕ
first_wrong options = first_such (λ (o : OptionAt). not o.is_right) (λ (o : OptionAt). o.at) options

-- the first that isn't right, or was stated before
abbrev pub first_bad : List OptionAt → Option ℕ
first_bad options = least (first_wrong options) (first_twice (map name_of options))
