-- What is reported of an enum is a rule that it breaks, and of its rules none is lower. All its faults are at one position.
use Rattle.std.proofs.Common.{◌≡◌, ℕ, List, [], ◌∷◌, ◌++◌, map, subst, refl, rules}
use Rattle.pg_link.specs.declared.error.Place.{Place}
use Rattle.pg_schema.specs.declared.parts.enum_type.EnumType.{EnumType}
use Rattle.pg_check.specs.declared.error.CheckError.{CheckError}
use Rattle.pg_check.specs.declared.rules.numbers.Keyed.{Keyed}
use Rattle.pg_check.specs.Errors.{error_of}
use Rattle.pg_check.specs.admitting.BrokenParts.{BreaksEnumType}
use Rattle.pg_check.specs.admitting.DeclaredParts as declared
use Rattle.pg_check.specs.inner.PartFaults as faults
use Rattle.pg_check.specs.rules.BrokenRules.{BreaksValues, alias, bad_value_item, bad_value_number, empty_enum, first_not_zero, reserved_value_name, reserved_value_number}
use Rattle.pg_check.specs.inner.Faults.{order}
use Rattle.pg_check.specs.rules.Names as names
use Rattle.pg_check.specs.inner.NameFaults as name_faults
use Rattle.pg_check.specs.inner.NumberFaults as number_faults
use Rattle.pg_check.proofs.lemmas.rules.FirstFaults.{IsFound, Meets}
use Rattle.pg_check.proofs.lemmas.rules.JudgedEnums.{values_judged, values_tell, values_broken}
use Rattle.pg_check.proofs.lemmas.admitting.PartRules.{At, item_at, one_of}

module _ (e : EnumType) (place : Place) where
  at_key : (before after : List Keyed) (k : Keyed) → map declared.value_key e.values.items ≡ before ++ k ∷ after → number_faults.at k ≡ 0
  at_key = one_of declared.value_key number_faults.at (λ v. refl) e.values.items

  at_name : (before after : List names.Named) (n : names.Named) → map declared.value_name e.values.items ≡ before ++ n ∷ after → name_faults.at n ≡ 0
  at_name = one_of declared.value_name name_faults.at (λ v. refl) e.values.items

  nowhere : (error : CheckError) (c d a : ℕ) → BreaksValues (declared.declared_enum e) 0 place error c d a → (d ≡ 0) × (a ≡ 0)
  nowhere error c d a (bad_value_number k first) = let at = at_key first.before first.after k first.is in (at, at)
  nowhere error c d a (reserved_value_number k first) = let at = at_key first.before first.after k first.is in (at, at)
  nowhere error c d a (reserved_value_name n first) = let at = at_name first.before first.after n first.is in (at, at)
  nowhere error c d a (bad_value_item e1 c1 a1 h) = search (rules, item_at)
  nowhere error c d a (first_not_zero k more is fails) = let at = at_key [] more k is in (at, at)
  nowhere error c d a (alias k denied first) = let at = at_key first.before first.after k first.is in (at, at)
  nowhere error c d a (empty_enum none) = (refl, refl)

  pub enum_type_meets : Meets (At (BreaksEnumType e place) place) (faults.enum_fault e)
  enum_type_meets f h =
      let B = BreaksValues (declared.declared_enum e) 0 place (error_of f.rule place) (order f.rule) in
      let tells = values_tell 0 (declared.declared_enum e) place f ((values_judged 0 (declared.declared_enum e)).meets f h) in
      let (d, a) = nowhere (error_of f.rule place) (order f.rule) f.declared f.at tells in
      (d, subst (λ n. B n 0) d (subst (B f.declared) a tells))

  pub enum_type_found : (error : CheckError) (c : ℕ) → BreaksEnumType e place error c → IsFound (faults.enum_fault e) 0 c
  enum_type_found error c h =
      values_broken (IsFound (faults.enum_fault e)) 0 (declared.declared_enum e) place (values_judged 0 (declared.declared_enum e)).found error c 0 0 h
