-- The first name that breaks a rule, as the code looks for it, and names as the code has them.
use Rattle.std.specs.Prelude.{ℕ, List, [], Option, string_bytes}
use Rattle.pg_schema.specs.rules.TextSets.{is_among}
use Rattle.pg_check.specs.declared.rules.names as code
use Rattle.pg_check.specs.rules.Names.{Named, is_same}
use Rattle.pg_check.specs.inner.NumberFaults.{first_such, first_again}

abbrev pub called : code.Called.Called → Named
called c = record { text = c.text.now; at = c.at }

abbrev pub titled : code.Titled.Titled → Named
titled t = record { text = string_bytes t.text; at = t.at }

abbrev pub text_of : Named → List ℕ
text_of n = n.text

abbrev pub at : Named → ℕ
at n = n.at

-- the first name that is reserved
abbrev pub first_among : List (List ℕ) → List Named → Option ℕ
first_among reserved names = first_such (λ (n : Named). is_among reserved n.text) at names

-- the first name that came before
abbrev pub first_twice : List Named → Option ℕ
first_twice names = first_again is_same at [] names
