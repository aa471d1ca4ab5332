-- Enums and services, each rule with the fault that is found of it.
use Rattle.std.proofs.Common.{◌≡◌, ◌∙◌, ◌⊎◌, ◌↔◌, inl, inr, ℕ, Bool, true, false, not, nat_eq, ◌||◌, List, ◌∷◌, Option, Some, None, sym, ap, subst, refl, rules}
use Rattle.std.proofs.lemmas.Bool.{false≢true}
use Rattle.pg_link.specs.declared.error.Place.{Place}
use Rattle.pg_schema.specs.rules.TextSets.{is_among}
use Rattle.pg_check.specs.declared.error.CheckError.{CheckError}
use Rattle.pg_check.specs.declared.rules.fault.Fault.{Fault}
use Rattle.pg_check.specs.declared.rules.fault.Rule.TheVariants as rules
use Rattle.pg_check.specs.declared.rules.numbers.Keyed.{Keyed}
use Rattle.pg_check.specs.Errors.{error_of}
use Rattle.pg_check.specs.rules.BrokenRules.{BreaksEnum, BreaksService, BreaksValues, IsFirstBadOption, alias, bad_enum_option, bad_method_option, bad_service_option, bad_value_item, bad_value_number, bad_value_option, empty_enum, first_not_zero, in_values, reserved_value_name, reserved_value_number}
use Rattle.pg_check.specs.rules.Enums as enums
use Rattle.pg_check.specs.inner.EnumFaults as enum_faults
use Rattle.pg_check.specs.inner.Faults.{broken, broken_at, option_fault, order}
use Rattle.pg_check.specs.rules.Files as files
use Rattle.pg_check.specs.inner.FileFaults as file_faults
use Rattle.pg_check.specs.rules.Firsts.{IsBehind, IsFirst, IsFirstAgain}
use Rattle.pg_check.specs.rules.KeepsRules.{EnumKeeps, OptionsKeep, ServiceKeeps, ValuesKeep, are_apart, begins_with_zero, has_some, has_value_number, is_free, is_free_name, method_options, value_options}
use Rattle.pg_check.specs.rules.Names as names
use Rattle.pg_check.specs.inner.NameFaults as name_faults
use Rattle.pg_check.specs.rules.Numbers as numbers
use Rattle.pg_check.specs.inner.NumberFaults as number_faults
use Rattle.pg_check.proofs.lemmas.rules.FirstFaults.{again_reported, again_there}
use Rattle.pg_check.proofs.lemmas.rules.Judged.{Judged, at_one, both, each, kept_as, nothing, such, broken_as}
use Rattle.pg_check.proofs.lemmas.rules.JudgedItems.{ItemsFault, OptionFault, OptionFaultOf, items_judged, items_tell, items_broken, options_judged, own_options_judged}
use Rattle.pg_check.proofs.lemmas.rules.NoneLaws.{none_again, not_not}
use Rattle.pg_syntax.specs.declared.tree as tree
use Rattle.pg_syntax.specs.declared.tree.EnumPart.TheVariants as enum_parts
use Rattle.pg_syntax.specs.declared.tree.ServicePart.TheVariants as service_parts

-- ---- an enum without values

abbrev pub EmptyFault : ℕ → List Keyed → Fault → Type 0
EmptyFault at keys f = (n : ℕ) × ((has_some keys ≡ false) × (n ≡ at)) × (f ≡ broken_at rules.EnumEmpty n)

empty_judged : (at : ℕ) (keys : List Keyed) → Judged (broken rules.EnumEmpty (enum_faults.empty_at at keys)) (has_some keys ≡ true) (EmptyFault at keys)
empty_judged at keys = search (rules, at_one, false≢true)

-- ---- a first value that isn't 0

abbrev pub BeginsAt : List Keyed → ℕ → Type 0
BeginsAt keys n = (k : Keyed) × (more : List Keyed) × (keys ≡ k ∷ more) × (nat_eq k.key (numbers.rank false 0) ≡ false) × (n ≡ k.at)

zero_judged : (keys : List Keyed) → Judged (broken rules.EnumFirstNotZero (enum_faults.first_not_zero keys)) (begins_with_zero keys ≡ true) (λ f. (n : ℕ) × BeginsAt keys n × (f ≡ broken_at rules.EnumFirstNotZero n))
zero_judged keys = search (rules, at_one, false≢true)

-- ---- a number twice, without `allow_alias`

abbrev pub AliasAt : Bool → List Keyed → ℕ → Type 0
AliasAt aliases keys n = (k : Keyed) × (aliases ≡ false) × IsFirstAgain numbers.is_same keys k × (n ≡ k.at)

alias_judged : (aliases : Bool) (keys : List Keyed)
    → Judged (broken rules.EnumAlias (enum_faults.first_alias aliases keys)) ((aliases || are_apart numbers.is_same keys) ≡ true) (λ f. (n : ℕ) × AliasAt aliases keys n × (f ≡ broken_at rules.EnumAlias n))
alias_judged aliases keys = at_one rules.EnumAlias (enum_faults.first_alias aliases keys) (iff aliases) (is aliases) (there aliases)
  where
    iff : (b : Bool) → (enum_faults.first_alias b keys ≡ None) ↔ ((b || are_apart numbers.is_same keys) ≡ true)
    iff true = ((λ h. refl), λ h. refl)
    iff false = none_again numbers.is_same number_faults.at keys

    is : (b : Bool) (n : ℕ) → enum_faults.first_alias b keys ≡ Some n → AliasAt b keys n
    is true n h = absurd (cc (h))
    is false n h = again_reported (AliasAt false keys) numbers.is_same number_faults.at keys (λ k first. (k, refl, first, refl)) n h

    there : (b : Bool) (n : ℕ) → AliasAt b keys n → enum_faults.first_alias b keys ≡ Some n
    there b n (k, denied, first, at) =
        ap (λ c. enum_faults.first_alias c keys) denied ∙ (again_there numbers.is_same number_faults.at keys k first ∙ ap Some (sym at))

-- ---- values and reserved items

abbrev pub ValuesFault : ℕ → enums.DeclaredEnum → Fault → Type 0
ValuesFault at d f =
    EmptyFault at d.keys f
    ⊎ (((k : Keyed) × IsFirst has_value_number d.keys k × (f ≡ broken_at rules.BadNumber k.at))
    ⊎ (((k : Keyed) × IsFirst (is_free d.items) d.keys k × (f ≡ broken_at rules.ReservedNumber k.at))
    ⊎ (((n : names.Named) × IsFirst (is_free_name d.reserved_names) d.names n × (f ≡ broken_at rules.ReservedName n.at))
    ⊎ (ItemsFault numbers.lowest_value numbers.highest_value d.items f
    ⊎ (((n : ℕ) × BeginsAt d.keys n × (f ≡ broken_at rules.EnumFirstNotZero n))
    ⊎ ((n : ℕ) × AliasAt d.has_aliases d.keys n × (f ≡ broken_at rules.EnumAlias n)))))))

pub values_judged : (at : ℕ) (d : enums.DeclaredEnum) → Judged (enum_faults.values_fault at d) (ValuesKeep d) (ValuesFault at d)
values_judged at d =
    kept_as (both _ _ (empty_judged at d.keys)
    (both _ _ (such rules.BadNumber (λ (k : Keyed). not (has_value_number k)) has_value_number number_faults.at (λ k. not_not (has_value_number k)) d.keys)
    (both _ _ (such rules.ReservedNumber (λ (k : Keyed). numbers.is_reserved d.items k.key) (is_free d.items) number_faults.at (λ k. refl) d.keys)
    (both _ _ (such rules.ReservedName (λ (n : names.Named). is_among d.reserved_names n.text) (is_free_name d.reserved_names) name_faults.at (λ n. refl) d.names)
    (both _ _ (items_judged numbers.lowest_value numbers.highest_value d.items)
    (both _ _ (zero_judged d.keys) (alias_judged d.has_aliases d.keys))))))) (
      (λ h. record {
        has_values = h.0;
        numbers_fit = h.1.0;
        numbers_free = h.1.1.0;
        names_free = h.1.1.1.0;
        reserved = h.1.1.1.1.0;
        first_value = h.1.1.1.1.1.0;
        aliases = h.1.1.1.1.1.1;
      }),
      λ k. (k.has_values, (k.numbers_fit, (k.numbers_free, (k.names_free, (k.reserved, (k.first_value, k.aliases)))))),
    )

abbrev pub TellsValues : ℕ → enums.DeclaredEnum → Place → Fault → Type 0
TellsValues at d place f = BreaksValues d at place (error_of f.rule place) (order f.rule) f.declared f.at

pub values_tell : (at : ℕ) (d : enums.DeclaredEnum) (place : Place) (f : Fault) → ValuesFault at d f → TellsValues at d place f
values_tell at d place f (inl (n, (no_value, is_at), is)) =
    subst (TellsValues at d place) (sym (is ∙ ap (broken_at rules.EnumEmpty) is_at)) (empty_enum no_value)
values_tell at d place f (inr (inl (k, first, is))) = subst (TellsValues at d place) (sym is) (bad_value_number k first)
values_tell at d place f (inr (inr (inl (k, first, is)))) = subst (TellsValues at d place) (sym is) (reserved_value_number k first)
values_tell at d place f (inr (inr (inr (inl (n, first, is))))) = subst (TellsValues at d place) (sym is) (reserved_value_name n first)
values_tell at d place f (inr (inr (inr (inr (inl h))))) =
    items_tell (TellsValues at d place) numbers.lowest_value numbers.highest_value d.items place (λ rule a b. bad_value_item (error_of rule place) (order rule) a b) f h
values_tell at d place f (inr (inr (inr (inr (inr (inl (n, (k, more, same, fails, is_at), is))))))) =
    subst (TellsValues at d place) (sym (is ∙ ap (broken_at rules.EnumFirstNotZero) is_at)) (first_not_zero k more same fails)
values_tell at d place f (inr (inr (inr (inr (inr (inr (n, (k, denied, first, is_at), is))))))) =
    subst (TellsValues at d place) (sym (is ∙ ap (broken_at rules.EnumAlias) is_at)) (alias k denied first)

pub values_broken : (P : (declared code : ℕ) → Type 0) (at : ℕ) (d : enums.DeclaredEnum) (place : Place) → ((f : Fault) → ValuesFault at d f → P f.declared (order f.rule))
    → (e : CheckError) (c dd a : ℕ) → BreaksValues d at place e c dd a → P dd c
values_broken P at d place k e c dd a (empty_enum no_value) = k (broken_at rules.EnumEmpty at) (inl (at, (no_value, refl), refl))
values_broken P at d place k e c dd a (bad_value_number x first) = k (broken_at rules.BadNumber x.at) (inr (inl (x, first, refl)))
values_broken P at d place k e c dd a (reserved_value_number x first) = k (broken_at rules.ReservedNumber x.at) (inr (inr (inl (x, first, refl))))
values_broken P at d place k e c dd a (reserved_value_name n first) = k (broken_at rules.ReservedName n.at) (inr (inr (inr (inl (n, first, refl)))))
values_broken P at d place k e c dd a (bad_value_item e1 c1 a1 h) =
    items_broken P numbers.lowest_value numbers.highest_value d.items place (λ f g. k f (inr (inr (inr (inr (inl g)))))) e1 c1 a1 h
values_broken P at d place k e c dd a (first_not_zero x more same fails) =
    k (broken_at rules.EnumFirstNotZero x.at) (inr (inr (inr (inr (inr (inl (x.at, (x, more, same, fails, refl), refl)))))))
values_broken P at d place k e c dd a (alias x denied first) = k (broken_at rules.EnumAlias x.at) (inr (inr (inr (inr (inr (inr (x.at, (x, denied, first, refl), refl)))))))

-- ---- enums

abbrev pub ValueFault : enums.Part → Fault → Type 0
ValueFault p f = (v : tree.EnumValue.EnumValue) × (p ≡ enum_parts.Value v) × OptionFaultOf v.name.span.from (value_options p) f

value_judged : (p : enums.Part) → Judged (enum_faults.part_option p) (OptionsKeep (value_options p)) (ValueFault p)
value_judged (enum_parts.Empty span) = nothing (record { right = refl; once = refl }) (λ f h. let is = h.1 in cc (is))
value_judged (enum_parts.Option o) = nothing (record { right = refl; once = refl }) (λ f h. let is = h.1 in cc (is))
value_judged (enum_parts.Reserved r) = nothing (record { right = refl; once = refl }) (λ f h. let is = h.1 in cc (is))
value_judged (enum_parts.Value v) = broken_as (own_options_judged v.name.span.from (value_options (enum_parts.Value v))) (λ f h. (v, refl, h)) (λ f h. of_v f h.0 h.1 h.2)
  where
    of_v : (f : Fault) (w : tree.EnumValue.EnumValue) → enum_parts.Value v ≡ enum_parts.Value w → OptionFaultOf w.name.span.from (value_options (enum_parts.Value v)) f
        → OptionFaultOf v.name.span.from (value_options (enum_parts.Value v)) f
    of_v f w same h = let is : v ≡ w = cc (same) in subst (λ (x : tree.EnumValue.EnumValue). OptionFaultOf x.name.span.from (value_options (enum_parts.Value v)) f) (sym is) h

abbrev pub EnumFault : tree.Enum.Enum → Fault → Type 0
EnumFault e f =
    ValuesFault e.name.span.from (enums.declared e.parts.items) f
    ⊎ (OptionFault (enums.lines e.parts.items) f
    ⊎ ((p : enums.Part) × IsBehind (λ p. OptionsKeep (value_options p)) e.parts.items p × ValueFault p f))

pub enum_judged : (e : tree.Enum.Enum) → Judged (enum_faults.enum_fault e) (EnumKeeps e.parts.items) (EnumFault e)
enum_judged e =
    kept_as (both _ _ (values_judged e.name.span.from (enums.declared e.parts.items))
    (both _ _ (options_judged (enums.lines e.parts.items)) (each enum_faults.part_option (λ p. OptionsKeep (value_options p)) ValueFault value_judged e.parts.items)))
    ((λ h. record { values = h.0; options = h.1.0; value_options = h.1.1 }), λ k. (k.values, (k.options, k.value_options)))

abbrev pub TellsEnum : tree.Enum.Enum → Place → Fault → Type 0
TellsEnum e place f = BreaksEnum e place (error_of f.rule place) (order f.rule) f.declared f.at

pub enum_tells : (e : tree.Enum.Enum) (place : Place) (f : Fault) → EnumFault e f → TellsEnum e place f
enum_tells e place f (inl h) = in_values (error_of f.rule place) (order f.rule) f.declared f.at (values_tell e.name.span.from (enums.declared e.parts.items) place f h)
enum_tells e place f (inr (inl (n, first, is))) = subst (TellsEnum e place) (sym is) (bad_enum_option n first)
enum_tells e place f (inr (inr (p, behind, (v, same, (n, first, is))))) =
    let keeps = λ (q : enums.Part). OptionsKeep (value_options q) in
    subst (TellsEnum e place) (sym is) (bad_value_option v n (subst (IsBehind keeps e.parts.items) same behind) (subst (λ q. IsFirstBadOption (value_options q) n) same first))

pub enum_broken : (P : (declared code : ℕ) → Type 0) (e : tree.Enum.Enum) (place : Place) → ((f : Fault) → EnumFault e f → P f.declared (order f.rule))
    → (error : CheckError) (c d a : ℕ) → BreaksEnum e place error c d a → P d c
enum_broken P e place k error c d a (in_values e1 c1 d1 a1 h) = values_broken P e.name.span.from (enums.declared e.parts.items) place (λ f g. k f (inl g)) e1 c1 d1 a1 h
enum_broken P e place k error c d a (bad_enum_option at first) = k (broken_at rules.BadOption at) (inr (inl (at, first, refl)))
enum_broken P e place k error c d a (bad_value_option v at behind first) =
    k (option_fault rules.BadOption v.name.span.from at) (inr (inr (enum_parts.Value v, behind, (v, refl, (at, first, refl)))))

-- ---- services

abbrev pub MethodFault : tree.ServicePart.ServicePart → Fault → Type 0
MethodFault p f = (r : tree.Rpc.Rpc) × (p ≡ service_parts.Rpc r) × OptionFault (method_options p) f

method_judged : (p : tree.ServicePart.ServicePart) → Judged (file_faults.part_fault p) (OptionsKeep (method_options p)) (MethodFault p)
method_judged (service_parts.Empty span) = nothing (record { right = refl; once = refl }) (λ f h. let is = h.1 in cc (is))
method_judged (service_parts.Option o) = nothing (record { right = refl; once = refl }) (λ f h. let is = h.1 in cc (is))
method_judged (service_parts.Rpc r) = broken_as (options_judged (method_options (service_parts.Rpc r))) (λ f h. (r, refl, h)) (λ f h. h.2)

abbrev pub ServiceFault : List tree.ServicePart.ServicePart → Fault → Type 0
ServiceFault body f =
    OptionFault (files.service_lines body) f
    ⊎ ((p : tree.ServicePart.ServicePart) × IsBehind (λ p. OptionsKeep (method_options p)) body p × MethodFault p f)

pub service_judged : (s : tree.Service.Service) → Judged (file_faults.service_fault s) (ServiceKeeps s.parts.items) (ServiceFault s.parts.items)
service_judged s =
    kept_as (both _ _ (options_judged (files.service_lines s.parts.items)) (each file_faults.part_fault (λ p. OptionsKeep (method_options p)) MethodFault method_judged s.parts.items))
    ((λ h. record { options = h.0; method_options = h.1 }), λ k. (k.options, k.method_options))

abbrev pub TellsService : List tree.ServicePart.ServicePart → Place → Fault → Type 0
TellsService body place f = BreaksService body place (error_of f.rule place) (order f.rule) f.declared f.at

pub service_tells : (body : List tree.ServicePart.ServicePart) (place : Place) (f : Fault) → ServiceFault body f → TellsService body place f
service_tells body place f (inl (n, first, is)) = subst (TellsService body place) (sym is) (bad_service_option n first)
service_tells body place f (inr (p, behind, (r, same, (n, first, is)))) =
    let keeps = λ (q : tree.ServicePart.ServicePart). OptionsKeep (method_options q) in
    subst (TellsService body place) (sym is) (bad_method_option r n (subst (IsBehind keeps body) same behind) (subst (λ q. IsFirstBadOption (method_options q) n) same first))

pub service_broken : (P : (declared code : ℕ) → Type 0) (body : List tree.ServicePart.ServicePart) (place : Place) → ((f : Fault) → ServiceFault body f → P f.declared (order f.rule))
    → (error : CheckError) (c d a : ℕ) → BreaksService body place error c d a → P d c
service_broken P body place k error c d a (bad_service_option at first) = k (broken_at rules.BadOption at) (inl (at, first, refl))
service_broken P body place k error c d a (bad_method_option r at behind first) =
    k (broken_at rules.BadOption at) (inr (service_parts.Rpc r, behind, (r, refl, (at, first, refl))))
