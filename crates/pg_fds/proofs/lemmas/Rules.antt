-- What is told of the parts that a set states, once it is asked which rules they keep.
use Rattle.std.proofs.Common.{◌≡◌, List, ℕ, Result, Ok, Err, IfErr, IfOk, OnOk, refl, sym, subst}
use Rattle.std.proofs.lemmas.Result.{IfErr-weaker, IfOk-weaker, err_from_is_err_and}
use Rattle.std.specs.Prelude.{IsErrAnd}
use Rattle.pg_schema.specs.declared.parts.Parts.{Parts}
use Rattle.pg_schema.specs.rules.Sound.{IsSound}
use Rattle.pg_check.specs.declared.error.CheckError.{CheckError}
use Rattle.pg_check.specs.declared.error.CheckError.TheVariants as rules
use Rattle.pg_check.specs.admitting.PartErrors.{IsRefusedOf, bad, first, lacking}
use Rattle.pg_set.specs.declared.error.SetError.{SetError}
use Rattle.pg_set.specs.declared.error.SetError.TheVariants as sets
use Rattle.pg_set.specs.refusals.Refused.{MayRefuseParts, NoPartsAreStated}
use Rattle.pg_set.specs.stated.Alike.{AlikeAreSound}
use Rattle.pg_set.specs.stated.Reads.{IsNotTooDeep, fds_reads}
use Rattle.pg_set.specs.stated.Views.{parts_view}
use Rattle.pg_fds.specs.declared.error.FdsError.{FdsError}
use Rattle.pg_fds.specs.declared.error.FdsError.TheVariants as errors
use Rattle.pg_fds.specs.inner.OfRules.{IsOfRules}
use Rattle.pg_fds.specs.refusals.Refused.{MayRefuseSet, NoneIsStated}
use Rattle.pg_fds.specs.refusals.SetErrors.{of_set}

-- ---- sets that state no parts

may_refuse : (bytes : List ℕ) (u : SetError) → MayRefuseParts bytes u → MayRefuseSet bytes (of_set u)
may_refuse bytes sets.Memory may = tt
may_refuse bytes (sets.Bytes e) may = may
may_refuse bytes sets.NotProto3 may = may
may_refuse bytes sets.BadType may = may
may_refuse bytes sets.BadReference may = may

none_is_stated : (bytes : List ℕ) (u : SetError) → NoPartsAreStated bytes u → NoneIsStated bytes (of_set u)
none_is_stated bytes sets.Memory none = tt
none_is_stated bytes (sets.Bytes e) none = none
none_is_stated bytes sets.NotProto3 none = none
none_is_stated bytes sets.BadType none = none
none_is_stated bytes sets.BadReference none = none

-- what holds of the error that is handed on
of_handed : {T : Type 0} (P : FdsError → Type 0) (r : Result T FdsError) (u : SetError) → IsErrAnd r (λ e. e ≡ of_set u) → P (of_set u) → IfErr r P
of_handed P r u told holds =
    let (e, is, same) = err_from_is_err_and r told in
    subst (λ s. IfErr s P) (sym is) (subst P (sym same) holds)

module _ {T : Type 0} (bytes : List ℕ) (r : Result T FdsError) (u : SetError) (told : IsErrAnd r (λ e. e ≡ of_set u)) where
  pub set_refused : MayRefuseParts bytes u → IfErr r (MayRefuseSet bytes)
  set_refused may = of_handed (MayRefuseSet bytes) r u told (may_refuse bytes u may)

  pub set_states_none : NoPartsAreStated bytes u → IfErr r (NoneIsStated bytes)
  set_states_none none = of_handed (NoneIsStated bytes) r u told (none_is_stated bytes u none)

-- ---- the schema of parts

-- what holds of the parts holds of the schema that they are
pub of_parts : (P : Parts → Type 0) (parts : Parts) (r : Result Parts FdsError) → IfOk r (λ schema. schema ≡ parts) → P parts → IfOk r P
of_parts P parts r same holds = IfOk-weaker r (λ schema. schema ≡ parts) P (λ schema is. subst P (sym is) holds) same

-- what holds of whatever is answered holds of an answer
pub always : {A E P : Type 0} (r : Result A E) → P → OnOk r P
always (Ok x) holds = holds
always (Err e) holds = tt

-- ---- the rules that they break

-- sound parts are refused for want of memory alone
sound_refused : (parts : Parts) (e : CheckError) → IsRefusedOf parts e → IsSound parts → e ≡ rules.Memory
sound_refused parts e lacking sound = refl
sound_refused parts e (first f is unsound) sound = absurd (unsound sound)
sound_refused parts e (bad place nowhere none unsound) sound = absurd (unsound sound)

module _ (bytes : List ℕ) (parts : Parts) (reads : fds_reads bytes parts) (r : Result Parts FdsError) (refused : IfErr r (IsOfRules parts)) where
  rule_refused : (level : IsNotTooDeep bytes) (e : FdsError) → IsOfRules parts e → MayRefuseSet bytes e
  rule_refused level errors.Memory h = tt
  rule_refused level (errors.Bytes e) h = absurd h
  rule_refused level errors.NotProto3 h = absurd h
  rule_refused level errors.BadType h = absurd h
  rule_refused level errors.BadReference h = absurd h
  rule_refused level (errors.Rule e) h = (level, (parts, (reads, h.0)), h.1)

  pub parts_refused : IsNotTooDeep bytes → IfErr r (MayRefuseSet bytes)
  parts_refused level = IfErr-weaker r (IsOfRules parts) (MayRefuseSet bytes) (rule_refused level) refused

  module _ (alike : AlikeAreSound) (same : (others : Parts) → fds_reads bytes others → parts_view parts ≡ parts_view others) where
    rule_broken : (e : FdsError) → IsOfRules parts e → NoneIsStated bytes e
    rule_broken errors.Memory h = tt
    rule_broken (errors.Bytes e) h = absurd h
    rule_broken errors.NotProto3 h = absurd h
    rule_broken errors.BadType h = absurd h
    rule_broken errors.BadReference h = absurd h
    rule_broken (errors.Rule e) h =
        λ others sound theirs. h.1 (sound_refused parts e h.0 (alike others parts (sym (same others theirs)) sound))

    pub parts_state_none : IfErr r (NoneIsStated bytes)
    parts_state_none = IfErr-weaker r (IsOfRules parts) (NoneIsStated bytes) rule_broken refused
