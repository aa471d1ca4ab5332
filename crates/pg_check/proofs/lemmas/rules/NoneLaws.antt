-- When none of several faults is there, and when none of a list has one.
use Rattle.std.proofs.Common.{◌≡◌, ◌∙◌, ◌↔◌, ℕ, Bool, true, false, not, ◌&&◌, ◌||◌, List, [], ◌∷◌, ◌++◌, Option, None, ap, refl, arith, rules}
use Rattle.std.specs.List.{list_all, list_any, AllByRecursion}
use Rattle.std.proofs.lemmas.Bool.{false≢true}
use Rattle.std.proofs.lemmas.List.Folds.{list_any-append}
use Rattle.pg_schema.proofs.lemmas.rules.PairLemmas.{and_left, and_right, and_both}
use Rattle.pg_check.specs.declared.rules.fault.Fault.{Fault}
use Rattle.pg_check.specs.inner.Faults.{earlier, earliest, first_fault, or_else}
use Rattle.pg_check.specs.rules.KeepsRules.{are_apart}
use Rattle.pg_check.specs.inner.NumberFaults.{first_again, first_such, least}

-- ---- tests that both hold

pub not_not : (b : Bool) → not (not b) ≡ b
not_not b = grind arith

-- ---- faults

pub earlier_none : (a b : Option Fault) → (earlier a b ≡ None) ↔ ((a ≡ None) × (b ≡ None))
earlier_none a b = grind arith

pub or_else_none : (a b : Option Fault) → (or_else a b ≡ None) ↔ ((a ≡ None) × (b ≡ None))
or_else_none a b = grind arith

pub least_none : (a b : Option ℕ) → (least a b ≡ None) ↔ ((a ≡ None) × (b ≡ None))
least_none a b = grind arith

-- ---- lists

pub first_fault_none : {X : Type 0} (fault : X → Option Fault) (xs : List X) → (first_fault fault xs ≡ None) ↔ AllByRecursion (λ x. fault x ≡ None) xs
first_fault_none fault [] = ((λ h. tt), λ h. refl)
first_fault_none fault (x ∷ xs) = search (rules, or_else_none, first_fault_none fault xs)

pub earliest_none : {X : Type 0} (fault : X → Option Fault) (found : Option Fault) (xs : List X) → (earliest fault found xs ≡ None) ↔ ((found ≡ None) × AllByRecursion (λ x. fault x ≡ None) xs)
earliest_none fault found [] = ((λ h. (h, tt)), λ h. h.0)
earliest_none fault found (x ∷ xs) = search (rules, earlier_none, earliest_none fault (earlier found (fault x)) xs)

pub all_iff : {X : Type 0} (P Q : X → Type 0) → ((x : X) → P x ↔ Q x) → (xs : List X) → AllByRecursion P xs ↔ AllByRecursion Q xs
all_iff P Q iff [] = ((λ h. tt), λ h. tt)
all_iff P Q iff (x ∷ xs) = ((λ h. ((iff x).0 h.0, (all_iff P Q iff xs).0 h.1)), λ h. ((iff x).1 h.0, (all_iff P Q iff xs).1 h.1))

pub tests_iff : {X : Type 0} (P : X → Type 0) (test : X → Bool) → ((x : X) → P x ↔ (test x ≡ true)) → (xs : List X) → AllByRecursion P xs ↔ (list_all test xs ≡ true)
tests_iff P test iff [] = ((λ h. refl), λ h. tt)
tests_iff P test iff (x ∷ xs) = search (rules, and_both, and_left, and_right, tests_iff P test iff xs)

-- none passes the one test where all pass the other
pub such_kept : {X : Type 0} (test good : X → Bool) (place : X → ℕ) → ((x : X) → not (test x) ≡ good x) → (xs : List X) → (first_such test place xs ≡ None) ↔ (list_all good xs ≡ true)
such_kept test good place same [] = ((λ h. refl), λ h. refl)
such_kept test good place same (x ∷ xs) = search (rules, false≢true, and_left, and_both, and_right, such_kept test good place same xs)

-- ---- items that are the same as one before them

abbrev fresh : {X : Type 0} → (X → X → Bool) → List X → X → Bool
fresh same before x = not (list_any (same x) before)

neither : (a b : Bool) → not (a || (b || false)) ≡ (not a && not b)
neither a b = grind arith

fresh_more : {X : Type 0} (same : X → X → Bool) (before : List X) (x y : X) → fresh same (before ++ x ∷ []) y ≡ (fresh same before y && not (same y x))
fresh_more same before x y = ap not (list_any-append (same y) before (x ∷ [])) ∙ neither (list_any (same y) before) (same y x)

regroup : (a b c d : Bool) → ((a && b) && (c && d)) ≡ ((a && c) && (b && d))
regroup a b c d = grind arith

all_fresh : {X : Type 0} (same : X → X → Bool) (before : List X) (x : X) (ys : List X) → list_all (fresh same (before ++ x ∷ [])) ys ≡ (list_all (fresh same before) ys && list_all (λ y. not (same y x)) ys)
all_fresh same before x [] = refl
all_fresh same before x (y ∷ ys) = search (rules, fresh_more, regroup, all_fresh same before x ys)

again_none : {X : Type 0} (same : X → X → Bool) (place : X → ℕ) (before xs : List X) → (first_again same place before xs ≡ None) ↔ ((list_all (fresh same before) xs ≡ true) × (are_apart same xs ≡ true))
again_none same place before [] = ((λ h. (refl, refl)), λ h. refl)
again_none same place before (x ∷ xs) = search (rules, false≢true, all_fresh, and_left, and_both, and_right, again_none same place (before ++ x ∷ []) xs)

all_new : {X : Type 0} (same : X → X → Bool) (xs : List X) → list_all (fresh same []) xs ≡ true
all_new same [] = refl
all_new same (x ∷ xs) = all_new same xs

pub none_again : {X : Type 0} (same : X → X → Bool) (place : X → ℕ) (xs : List X) → (first_again same place [] xs ≡ None) ↔ (are_apart same xs ≡ true)
none_again same place xs = ((λ h. ((again_none same place [] xs).0 h).1), λ h. (again_none same place [] xs).1 (all_new same xs, h))
