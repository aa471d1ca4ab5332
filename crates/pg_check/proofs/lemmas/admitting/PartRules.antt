-- What is said of the faults of parts, which are all at one position.
use Rattle.std.proofs.Common.{◌≡◌, ◌∙◌, ℕ, Bool, false, List, [], ◌∷◌, ◌++◌, map, sym, ap, arith}
use Rattle.pg_link.specs.declared.error.Place.{Place}
use Rattle.pg_check.specs.declared.error.CheckError.{CheckError}
use Rattle.pg_check.specs.declared.rules.fault.Fault.{Fault}
use Rattle.pg_check.specs.declared.rules.fault.Rule.{Rule}
use Rattle.pg_check.specs.declared.rules.numbers.Numbers.{Numbers}
use Rattle.pg_check.specs.Errors.{error_of}
use Rattle.pg_check.specs.inner.PartFaults as faults
use Rattle.pg_check.specs.rules.BrokenRules.{BreaksItems, beyond, falling, overlapping}
use Rattle.pg_check.specs.inner.Faults.{order}
use Rattle.pg_check.specs.inner.ItemFaults as reserved
use Rattle.pg_check.proofs.lemmas.rules.FirstFaults.{IsFound, Meets, broken_found, broken_meets}

abbrev pub At : (CheckError → ℕ → Type 0) → Place → Fault → Type 0
At B place f = (f.declared ≡ 0) × B (error_of f.rule place) (order f.rule)

pub test_meets : (B : CheckError → ℕ → Type 0) (place : Place) (rule : Rule) (b : Bool) → (b ≡ false → B (error_of rule place) (order rule)) → Meets (At B place) (faults.fault_unless rule b)
test_meets B place rule b k = grind (arith, broken_meets)

pub test_found : (rule : Rule) (b : Bool) → b ≡ false → IsFound (faults.fault_unless rule b) 0 (order rule)
test_found rule b h = broken_found rule (faults.where_not b) 0 (ap faults.where_not h)

-- what each item of a list has, one of its items has
pub one_of : {A X : Type 0} (view : A → X) (place : X → ℕ) → ((a : A) → place (view a) ≡ 0) → (xs : List A) (before after : List X) (x : X) → map view xs ≡ before ++ x ∷ after → place x ≡ 0
one_of view place zero [] [] after x is = absurd (cc (is))
one_of view place zero [] (b ∷ bs) after x is = absurd (cc (is))
one_of view place zero (a ∷ xs) [] after x is = let same : view a ≡ x = cc (is) in sym (ap place same) ∙ zero a
one_of view place zero (a ∷ xs) (b ∷ bs) after x is = let rest : map view xs ≡ bs ++ x ∷ after = cc (is) in one_of view place zero xs bs after x rest

pub item_at : {A : Type 0} (view : A → Numbers) → ((a : A) → reserved.at (view a) ≡ 0) → (xs : List A) (lowest highest : ℕ) (place : Place) (error : CheckError) (c a : ℕ)
    → BreaksItems lowest highest (map view xs) place error c a → a ≡ 0
item_at view zero xs lowest highest place error c a (beyond r first) = one_of view reserved.at zero xs first.before first.after r first.is
item_at view zero xs lowest highest place error c a (falling r first) = one_of view reserved.at zero xs first.before first.after r first.is
item_at view zero xs lowest highest place error c a (overlapping r first) = one_of view reserved.at zero xs first.before first.after r first.is
