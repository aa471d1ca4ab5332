use Rattle.std.proofs.Common.{◌≡◌, ◌∙◌, ℕ, Bool, List, IfOk, map, string_bytes, ap, subst}
use Rattle.pg_check.specs.declared.rules.numbers.Keyed.{Keyed}
use Rattle.pg_check.specs.declared.rules.numbers.Numbers.{Numbers}
use Rattle.pg_check.specs.rules.Enums as spec
use Rattle.pg_check.specs.inner.EnumFaults as enum_faults
use Rattle.pg_check.specs.rules.Names.{Named}
use Rattle.pg_check.specs.inner.NameFaults.{called}
use Rattle.pg_check.proofs.rules.enumeration.body_fault.Goals as goal

abbrev enum_of : List Keyed → List Named → List Numbers → List (List ℕ) → Bool → spec.DeclaredEnum
enum_of keys names items reserved has_aliases = record { keys = keys; names = names; items = items; reserved_names = reserved; has_aliases = has_aliases }

same : (ks ls : List Keyed) (ns ms : List Named) (is js : List Numbers) (rs ss : List (List ℕ)) (a b : Bool) → ks ≡ ls → ns ≡ ms → is ≡ js → rs ≡ ss → a ≡ b
    → enum_of ks ns is rs a ≡ enum_of ls ms js ss b
same ks ls ns ms is js rs ss a b e f g h i =
    ap (λ x. enum_of x ns is rs a) e
    ∙ (ap (λ x. enum_of ls x is rs a) f ∙ (ap (λ x. enum_of ls ms x rs a) g ∙ (ap (λ x. enum_of ls ms js x a) h ∙ ap (λ x. enum_of ls ms js ss x) i)))

pub returns : goal.returns
returns c =
    let body = c.args.body.now in
    subst (λ d. IfOk c.values_fault.result (λ fault. fault ≡ enum_faults.values_fault c.args.at d))
    (same c.deref.result.now (spec.keys body) (map called c.deref-2.result.now) (spec.value_names body) c.deref-3.result.now (spec.items body)
    (map string_bytes c.deref-4.result.now) (spec.reserved_names body) c.has_aliases.result (spec.has_aliases body)
    (c.deref.ensures.value ∙ c.in_ok-keys.ensures) (ap (map called) c.deref-2.ensures.value ∙ c.in_ok-names.ensures)
    (c.deref-3.ensures.value ∙ c.in_ok-items.ensures) (ap (map string_bytes) c.deref-4.ensures.value ∙ c.in_ok-reserved_names.ensures) c.has_aliases.ensures)
    c.values_fault.ensures
