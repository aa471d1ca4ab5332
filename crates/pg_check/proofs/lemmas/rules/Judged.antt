-- A rule and the fault that is found of it, in one: none is found exactly where the rule is kept, what is found breaks it, and of what
-- breaks it none comes before.
use Rattle.std.proofs.Common.{◌≡◌, ◌⊎◌, ◌↔◌, inl, inr, ℕ, Bool, true, not, List, [], Option, Some, None, option_map, sym, subst, refl, rules}
use Rattle.std.specs.List.{list_all, AllByRecursion}
use Rattle.pg_check.specs.declared.rules.fault.Fault.{Fault}
use Rattle.pg_check.specs.declared.rules.fault.Rule.{Rule}
use Rattle.pg_check.specs.inner.Faults.{broken, broken_at, declared_fault, earlier, earliest, first_fault, option_fault, order}
use Rattle.pg_check.specs.rules.Firsts.{IsBehind, IsFirst, IsFirstAgain, IsOneOf}
use Rattle.pg_check.specs.rules.KeepsRules.{are_apart}
use Rattle.pg_check.specs.inner.NumberFaults.{first_again, first_such}
use Rattle.pg_check.proofs.lemmas.rules.FirstFaults.{IsFound, Meets, again_reported, again_there, earlier_meets, earliest_found, earliest_meets, first_found, first_meets, found_left, found_right, none_meets, such_reported, such_there}
use Rattle.pg_check.proofs.lemmas.rules.NoneLaws.{all_iff, earlier_none, earliest_none, first_fault_none, none_again, such_kept, tests_iff}

pub record Judged (o : Option Fault) (Keeps : Type 0) (Breaks : Fault → Type 0) : Type 0 where
  pub none : (o ≡ None) ↔ Keeps
  pub meets : Meets Breaks o
  pub found : (f : Fault) → Breaks f → IsFound o f.declared (order f.rule)

-- both rules
pub both : {K L : Type 0} {B C : Fault → Type 0} (a b : Option Fault) → Judged a K B → Judged b L C → Judged (earlier a b) (K × L) (λ f. B f ⊎ C f)
both {K} {L} {B} {C} a b j k = record { none = none; meets = earlier_meets _ a b (λ f h. inl (j.meets f h)) (λ f h. inr (k.meets f h)); found = found }
  where
    none : (earlier a b ≡ None) ↔ (K × L)
    none = search (rules, earlier_none)

    found : (f : Fault) → B f ⊎ C f → IsFound (earlier a b) f.declared (order f.rule)
    found f (inl h) = found_left a b f.declared (order f.rule) (j.found f h)
    found f (inr h) = found_right a b f.declared (order f.rule) (k.found f h)

-- the same in other words
pub kept_as : {K L : Type 0} {B : Fault → Type 0} {o : Option Fault} → Judged o K B → K ↔ L → Judged o L B
kept_as j same = record { none = ((λ h. same.0 (j.none.0 h)), λ h. j.none.1 (same.1 h)); meets = j.meets; found = j.found }

-- a rule that is broken at the first item of a list that breaks it
of_item : {X K : Type 0} {B : X → Type 0} (fault : ℕ → Fault) (place : X → ℕ) (o : Option ℕ) → (o ≡ None) ↔ K
    → ((P : ℕ → Type 0) → ((x : X) → B x → P (place x)) → (n : ℕ) → o ≡ Some n → P n) → ((x : X) → B x → o ≡ Some (place x))
    → Judged (option_map fault o) K (λ f. (x : X) × B x × (f ≡ fault (place x)))
of_item {X} {K} {B} fault place o iff reported there = record { none = none o iff; meets = meets; found = found }
  where
    none : (p : Option ℕ) → (p ≡ None) ↔ K → (option_map fault p ≡ None) ↔ K
    none None same = ((λ h. same.0 refl), λ k. refl)
    none (Some n) same = ((λ h. absurd (cc (h))), λ k. let no_item : Some n ≡ None = same.1 k in absurd (cc (no_item)))

    some : (p : Option ℕ) (f : Fault) → option_map fault p ≡ Some f → (n : ℕ) × (p ≡ Some n) × (f ≡ fault n)
    some None f h = absurd (cc (h))
    some (Some n) f h = let same : fault n ≡ f = cc (h) in (n, refl, sym same)

    meets : (f : Fault) → option_map fault o ≡ Some f → (x : X) × B x × (f ≡ fault (place x))
    meets f h =
        let (n, at, is) = some o f h in
        subst (λ g. (x : X) × B x × (g ≡ fault (place x))) (sym is) (reported (λ m. (x : X) × B x × (fault m ≡ fault (place x))) (λ x b. (x, b, refl)) n at)

    found : (f : Fault) → (x : X) × B x × (f ≡ fault (place x)) → IsFound (option_map fault o) f.declared (order f.rule)
    found f (x, b, is) = search rules

-- no item of a list fails a test
such_by : {X : Type 0} (fault : ℕ → Fault) (test keeps : X → Bool) (place : X → ℕ) → ((x : X) → not (test x) ≡ keeps x) → (xs : List X)
    → Judged (option_map fault (first_such test place xs)) (list_all keeps xs ≡ true) (λ f. (x : X) × IsFirst keeps xs x × (f ≡ fault (place x)))
such_by fault test keeps place same xs =
    of_item fault place (first_such test place xs) (such_kept test keeps place same xs) (λ P. such_reported P test keeps place same xs) (such_there test keeps place same xs)

pub such : {X : Type 0} (rule : Rule) (test keeps : X → Bool) (place : X → ℕ) → ((x : X) → not (test x) ≡ keeps x) → (xs : List X)
    → Judged (broken rule (first_such test place xs)) (list_all keeps xs ≡ true) (λ f. (x : X) × IsFirst keeps xs x × (f ≡ broken_at rule (place x)))
such rule test keeps place same xs = such_by (broken_at rule) test keeps place same xs

pub such_at_option : {X : Type 0} (rule : Rule) (declared : ℕ) (test keeps : X → Bool) (place : X → ℕ) → ((x : X) → not (test x) ≡ keeps x) → (xs : List X)
    → Judged (declared_fault rule declared (first_such test place xs)) (list_all keeps xs ≡ true) (λ f. (x : X) × IsFirst keeps xs x × (f ≡ option_fault rule declared (place x)))
such_at_option rule declared test keeps place same xs = such_by (option_fault rule declared) test keeps place same xs

-- no item of a list is the same as one before it
pub again : {X : Type 0} (rule : Rule) (same : X → X → Bool) (place : X → ℕ) (xs : List X)
    → Judged (broken rule (first_again same place [] xs)) (are_apart same xs ≡ true) (λ f. (x : X) × IsFirstAgain same xs x × (f ≡ broken_at rule (place x)))
again rule same place xs =
    of_item (broken_at rule) place (first_again same place [] xs) (none_again same place xs) (λ P. again_reported P same place xs) (again_there same place xs)

-- a rule that is broken at one byte, and one that is broken at an option of a declaration
pub at_one : {K : Type 0} {B : ℕ → Type 0} (rule : Rule) (o : Option ℕ) → (o ≡ None) ↔ K → ((n : ℕ) → o ≡ Some n → B n) → ((n : ℕ) → B n → o ≡ Some n)
    → Judged (broken rule o) K (λ f. (n : ℕ) × B n × (f ≡ broken_at rule n))
at_one rule o iff is there = of_item (broken_at rule) (λ n. n) o iff (λ P k n h. k n (is n h)) there

pub at_option : {K : Type 0} {B : ℕ → Type 0} (rule : Rule) (declared : ℕ) (o : Option ℕ) → (o ≡ None) ↔ K → ((n : ℕ) → o ≡ Some n → B n) → ((n : ℕ) → B n → o ≡ Some n)
    → Judged (declared_fault rule declared o) K (λ f. (n : ℕ) × B n × (f ≡ option_fault rule declared n))
at_option rule declared o iff is there = of_item (option_fault rule declared) (λ n. n) o iff (λ P k n h. k n (is n h)) there

-- each item of a list, of which the first is reported that breaks a rule
pub each : {X : Type 0} (fault : X → Option Fault) (K : X → Type 0) (B : X → Fault → Type 0) → ((x : X) → Judged (fault x) (K x) (B x)) → (xs : List X)
    → Judged (first_fault fault xs) (AllByRecursion K xs) (λ f. (x : X) × IsBehind K xs x × B x f)
each fault K B judged xs =
    let some = first_fault_none fault xs in
    let all = all_iff (λ x. fault x ≡ None) K (λ x. (judged x).none) xs in
    record {
      none = ((λ h. all.0 (some.0 h)), λ h. some.1 (all.1 h));
      meets = first_meets _ fault K (λ x. (judged x).none.0) xs (λ x behind f h. (x, behind, (judged x).meets f h));
      found = λ f h. first_found fault K (λ x. (judged x).none.1) xs h.0 f.declared (order f.rule) h.1 ((judged h.0).found f h.2);
    }

pub each_test : {X : Type 0} (fault : X → Option Fault) (test : X → Bool) (B : X → Fault → Type 0) → ((x : X) → Judged (fault x) (test x ≡ true) (B x)) → (xs : List X)
    → Judged (first_fault fault xs) (list_all test xs ≡ true) (λ f. (x : X) × IsBehind (λ x. test x ≡ true) xs x × B x f)
each_test fault test B judged xs = kept_as (each fault (λ x. test x ≡ true) B judged xs) (tests_iff (λ x. test x ≡ true) test (λ x. ((λ h. h), λ h. h)) xs)

-- each item of a list, of which the first fault is reported
pub all : {X : Type 0} (fault : X → Option Fault) (K : X → Type 0) (B : X → Fault → Type 0) → ((x : X) → Judged (fault x) (K x) (B x)) → (xs : List X)
    → Judged (earliest fault None xs) (AllByRecursion K xs) (λ f. (x : X) × IsOneOf xs x × B x f)
all fault K B judged xs =
    let some = earliest_none fault None xs in
    let items = all_iff (λ x. fault x ≡ None) K (λ x. (judged x).none) xs in
    record {
      none = ((λ h. items.0 (some.0 h).1), λ h. some.1 (refl, items.1 h));
      meets = earliest_meets _ fault None xs (λ f h. absurd (cc (h))) (λ x one f h. (x, one, (judged x).meets f h));
      found = λ f h. earliest_found fault None xs h.0 f.declared (order f.rule) h.1 ((judged h.0).found f h.2);
    }

-- no rule
pub nothing : {K : Type 0} {B : Fault → Type 0} → K → ((f : Fault) → B f → ⊥) → Judged None K B
nothing k never = record { none = ((λ h. k), λ h. refl); meets = none_meets _; found = λ f h. absurd (never f h) }

-- the same faults in other words
pub broken_as : {K : Type 0} {B C : Fault → Type 0} {o : Option Fault} → Judged o K B → ((f : Fault) → B f → C f) → ((f : Fault) → C f → B f) → Judged o K C
broken_as j to from = record { none = j.none; meets = λ f h. to f (j.meets f h); found = λ f h. j.found f (from f h) }
