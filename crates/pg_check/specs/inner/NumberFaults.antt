-- The first number that breaks a rule, as the code looks for it.
use Rattle.std.specs.List.{list_any}
use Rattle.std.specs.Prelude.{ℕ, ◌+◌, Bool, not, nat_lt, List, [], ◌∷◌, ◌++◌, Option, Some, None, if◌then◌else◌}
use Rattle.pg_check.specs.declared.rules.numbers.Keyed.{Keyed}
use Rattle.pg_check.specs.declared.rules.numbers.Numbers.{Numbers}
use Rattle.pg_check.specs.rules.Numbers.{is_same, is_reserved, is_within}

-- the offset of the first that passes the test
abbrev pub first_such : {X : Type 0} → (X → Bool) → (X → ℕ) → List X → Option ℕ
first_such test place [] = None
first_such test place (x ∷ xs) = if test x then Some (place x) else first_such test place xs

-- the offset of the first that is the same as one before it
abbrev pub first_again : {X : Type 0} → (X → X → Bool) → (X → ℕ) → List X → List X → Option ℕ
first_again same place before [] = None
first_again same place before (x ∷ xs) =
    if list_any (same x) before then Some (place x) else first_again same place (before ++ x ∷ []) xs

-- the lower of two offsets
abbrev pub least : Option ℕ → Option ℕ → Option ℕ
least None other = other
least (Some a) None = Some a
least (Some a) (Some b) = Some (if nat_lt b a then b else a)

abbrev pub at : Keyed → ℕ
at k = k.at

-- the first number that isn't from the lowest to the highest
abbrev pub first_outside : (lowest highest : ℕ) → List Keyed → Option ℕ
first_outside lowest highest keys = first_such (λ (k : Keyed). not (is_within lowest highest k.key)) at keys

-- the first number that came before
abbrev pub first_twice : List Keyed → Option ℕ
first_twice keys = first_again is_same at [] keys

-- the first number that is reserved
abbrev pub first_reserved : List Numbers → List Keyed → Option ℕ
first_reserved reserved keys = first_such (λ (k : Keyed). is_reserved reserved k.key) at keys
