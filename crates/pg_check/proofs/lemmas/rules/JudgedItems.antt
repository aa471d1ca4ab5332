-- Options and reserved items, each rule with the fault that is found of it.
use Rattle.std.proofs.Common.{◌≡◌, ◌∙◌, ◌⊎◌, ◌↔◌, ◌≤◌, inl, inr, ℕ, not, nat_lt, List, map, Option, Some, None, sym, ap, subst, refl, arith, rules}
use Rattle.std.proofs.lemmas.Bool.Decides.{nat_tests}
use Rattle.pg_link.specs.declared.error.Place.{Place}
use Rattle.pg_check.specs.declared.error.CheckError.{CheckError}
use Rattle.pg_check.specs.declared.rules.fault.Fault.{Fault}
use Rattle.pg_check.specs.declared.rules.fault.Rule.{Rule}
use Rattle.pg_check.specs.declared.rules.fault.Rule.TheVariants as rules
use Rattle.pg_check.specs.declared.rules.numbers.Numbers.{Numbers}
use Rattle.pg_check.specs.Errors.{error_of}
use Rattle.pg_check.specs.rules.BrokenRules.{BreaksItems, IsBadOption, IsFirstBadOption, again as given_again, beyond, falling, overlapping, wrong}
use Rattle.pg_check.specs.inner.Faults.{broken, broken_at, declared_fault, option_fault, order}
use Rattle.pg_check.specs.rules.Firsts.{IsFirst, IsFirstAgain}
use Rattle.pg_check.specs.rules.KeepsRules.{ItemsKeep, OptionsKeep, is_right, lies_within, rises}
use Rattle.pg_check.specs.rules.Names as names
use Rattle.pg_check.specs.inner.NameFaults as name_faults
use Rattle.pg_check.specs.inner.NumberFaults as numbers
use Rattle.pg_check.specs.rules.Options.{OptionAt, name_of}
use Rattle.pg_check.specs.inner.OptionFaults.{first_bad, first_wrong}
use Rattle.pg_check.specs.rules.ReservedItems as reserved
use Rattle.pg_check.specs.inner.ItemFaults as item_faults
use Rattle.pg_check.proofs.lemmas.rules.FirstFaults.{again_reported, again_there, such_reported, such_there}
use Rattle.pg_check.proofs.lemmas.rules.Judged.{Judged, again, at_one, at_option, both, kept_as, such}
use Rattle.pg_check.proofs.lemmas.rules.NoneLaws.{least_none, none_again, not_not, such_kept}

-- ---- options

options_keep : (options : List OptionAt) → (first_bad options ≡ None) ↔ OptionsKeep options
options_keep options = search (rules, least_none, such_kept, not_not, none_again)

option_reported : (options : List OptionAt) (n : ℕ) → (first_wrong options ≡ Some n) ⊎ (name_faults.first_twice (map name_of options) ≡ Some n) → IsBadOption options n
option_reported options n (inl h) = such_reported (IsBadOption options) (λ (o : OptionAt). not o.is_right) is_right (λ (o : OptionAt). o.at) (λ o. not_not o.is_right) options (λ o first. wrong o first) n h
option_reported options n (inr h) = again_reported (IsBadOption options) names.is_same name_faults.at (map name_of options) (λ o first. given_again o first) n h

option_there : (options : List OptionAt) (n : ℕ) → IsBadOption options n → (first_wrong options ≡ Some n) ⊎ (name_faults.first_twice (map name_of options) ≡ Some n)
option_there options n (wrong o first) = inl (such_there (λ (o : OptionAt). not o.is_right) is_right (λ (o : OptionAt). o.at) (λ o. not_not o.is_right) options o first)
option_there options n (given_again o first) = inr (again_there names.is_same name_faults.at (map name_of options) o first)

least_is : (w t : Option ℕ) (at : ℕ) → numbers.least w t ≡ Some at → (w ≡ Some at) ⊎ (t ≡ Some at)
least_is w t at h = grind (arith, nat_lt)

least_below : (w t : Option ℕ) (at n : ℕ) → numbers.least w t ≡ Some at → (w ≡ Some n) ⊎ (t ≡ Some n) → at ≤ n
least_below w t at n h k = grind (arith, nat_lt, nat_tests)

bad_reported : (options : List OptionAt) (at : ℕ) → first_bad options ≡ Some at → IsFirstBadOption options at
bad_reported options at h = search (rules, option_reported, least_is, least_below, option_there)

none_bad : (w t : Option ℕ) (n : ℕ) → numbers.least w t ≡ None → (w ≡ Some n) ⊎ (t ≡ Some n) → ⊥
none_bad w t n e h5 = grind (arith, least_none)

bad_there : (options : List OptionAt) (at : ℕ) → IsFirstBadOption options at → first_bad options ≡ Some at
bad_there options at h = by (first_bad options) refl
  where
    by : (o : Option ℕ) → first_bad options ≡ o → first_bad options ≡ Some at
    by None e = absurd (none_bad (first_wrong options) (name_faults.first_twice (map name_of options)) at e (option_there options at h.is))
    by (Some n) e =
        let first = bad_reported options n e in
        let above : n ≤ at = first.is_first at h.is in
        let below : at ≤ n = h.is_first n first.is in
        let same : n ≡ at = omega (arith, above, below) in
        e ∙ ap Some same

abbrev pub OptionFault : List OptionAt → Fault → Type 0
OptionFault options f = (n : ℕ) × IsFirstBadOption options n × (f ≡ broken_at rules.BadOption n)

pub options_judged : (options : List OptionAt) → Judged (broken rules.BadOption (first_bad options)) (OptionsKeep options) (OptionFault options)
options_judged options = at_one rules.BadOption (first_bad options) (options_keep options) (bad_reported options) (bad_there options)

abbrev pub OptionFaultOf : ℕ → List OptionAt → Fault → Type 0
OptionFaultOf declared options f = (n : ℕ) × IsFirstBadOption options n × (f ≡ option_fault rules.BadOption declared n)

pub own_options_judged : (declared : ℕ) (options : List OptionAt)
    → Judged (declared_fault rules.BadOption declared (first_bad options)) (OptionsKeep options) (OptionFaultOf declared options)
own_options_judged declared options = at_option rules.BadOption declared (first_bad options) (options_keep options) (bad_reported options) (bad_there options)

-- ---- reserved items

abbrev pub ItemsFault : (lowest highest : ℕ) → List Numbers → Fault → Type 0
ItemsFault lowest highest items f =
    ((r : Numbers) × IsFirst (lies_within lowest highest) items r × (f ≡ broken_at rules.BadNumber r.at))
    ⊎ (((r : Numbers) × IsFirst rises items r × (f ≡ broken_at rules.RangeOverlap r.at))
    ⊎ ((r : Numbers) × IsFirstAgain reserved.overlap items r × (f ≡ broken_at rules.RangeOverlap r.at)))

pub items_judged : (lowest highest : ℕ) (items : List Numbers) → Judged (item_faults.items_fault lowest highest items) (ItemsKeep lowest highest items) (ItemsFault lowest highest items)
items_judged lowest highest items =
    kept_as (both _ _ (such rules.BadNumber (λ (r : Numbers). not (lies_within lowest highest r)) (lies_within lowest highest) item_faults.at (λ r. not_not (lies_within lowest highest r)) items)
    (both _ _ (such rules.RangeOverlap (λ (r : Numbers). nat_lt r.last r.first) rises item_faults.at (λ r. refl) items)
    (again rules.RangeOverlap reserved.overlap item_faults.at items)))
    ((λ h. record { within = h.0; rising = h.1.0; apart = h.1.1 }), λ k. (k.within, (k.rising, k.apart)))

-- what is reported, in the words of what is broken
pub items_tell : (P : Fault → Type 0) (lowest highest : ℕ) (items : List Numbers) (place : Place)
    → ((rule : Rule) (at : ℕ) → BreaksItems lowest highest items place (error_of rule place) (order rule) at → P (broken_at rule at)) → (f : Fault) → ItemsFault lowest highest items f → P f
items_tell P lowest highest items place k f (inl h) = subst P (sym h.2) (k rules.BadNumber h.0.at (beyond h.0 h.1))
items_tell P lowest highest items place k f (inr (inl h)) = subst P (sym h.2) (k rules.RangeOverlap h.0.at (falling h.0 h.1))
items_tell P lowest highest items place k f (inr (inr h)) = subst P (sym h.2) (k rules.RangeOverlap h.0.at (overlapping h.0 h.1))

-- what is broken, in the words of what is reported
pub items_broken : (P : (declared code : ℕ) → Type 0) (lowest highest : ℕ) (items : List Numbers) (place : Place) → ((f : Fault) → ItemsFault lowest highest items f → P f.declared (order f.rule))
    → (e : CheckError) (c a : ℕ) → BreaksItems lowest highest items place e c a → P a c
items_broken P lowest highest items place k e c a (beyond r first) = k (broken_at rules.BadNumber r.at) (inl (r, first, refl))
items_broken P lowest highest items place k e c a (falling r first) = k (broken_at rules.RangeOverlap r.at) (inr (inl (r, first, refl)))
items_broken P lowest highest items place k e c a (overlapping r first) = k (broken_at rules.RangeOverlap r.at) (inr (inr (r, first, refl)))
