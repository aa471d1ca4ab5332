-- A schema that is written is read as the same schema.
use Rattle.std.proofs.Common.{◌≡◌, ℕ, ◌⊎◌, inl, inr, true, List, Result, Ok, Err, IfErr, IfOk, refl, subst, sym}
use Rattle.std.proofs.lemmas.Result.{IfOk-weaker}
use Rattle.pg_schema.specs.declared.parts.Parts.{Parts}
use Rattle.pg_schema.specs.Shape.{fields}
use Rattle.pg_schema.specs.rules.Sound.{IsSound}
use Rattle.pg_dyn.specs.declared.error.DynError.{DynError}
use Rattle.pg_dyn.specs.declared.error.DynError.TheVariants as faults
use Rattle.pg_dyn.specs.reading.Faults.{TooDeep}
use Rattle.pg_dyn.proofs.lemmas.reading.faults.Faulty.{first_is_fault}
use Rattle.pg_schema.specs.standing.Nesting.{are_shallow}
use Rattle.pg_schema.specs.standing.Places.{most_deep}
use Rattle.pg_fds.specs.declared.error.FdsError.{FdsError}
use Rattle.pg_fds.specs.declared.error.FdsError.TheVariants as errors
use Rattle.pg_set.specs.descriptor.Descriptor.{file_set, written_shape}
use Rattle.pg_set.specs.round_trip.Readable.{IsReadAgain, IsReadable}
use Rattle.pg_set.specs.round_trip.SetOrder.{ReadAgainAreReadable}
use Rattle.pg_set.specs.stated.Reads.{IsNotTooDeep, fds_reads}
use Rattle.pg_fds.specs.round_trip.ReadAgain.{IsTooLong, MayRefuseAgain, SetStates}
use Rattle.pg_fds.specs.refusals.Refused.{MayRefuseSet, NoneIsStated}
use Rattle.pg_set.specs.writing.Set.{fds}
use Rattle.pg_set.specs.stated.Views.{parts_view}

-- ---- bytes that state it are refused for want of memory alone

module _ (parts : Parts) (bytes : List ℕ) (sound : IsSound parts) (states : fds_reads bytes parts) (level : IsNotTooDeep bytes) where
  by_codec : (e : DynError) → MayRefuseSet bytes (errors.Bytes e) → NoneIsStated bytes (errors.Bytes e) → ⊥
  by_codec faults.Memory may none = may.0 refl
  by_codec (faults.TooDeep at) may none =
      level at (first_is_fault written_shape most_deep (fields written_shape file_set) bytes TooDeep at may.1)
  by_codec faults.NoSuchField may none = none parts states
  by_codec faults.WrongKind may none = none parts states
  by_codec faults.OutOfRange may none = none parts states
  by_codec (faults.NotUtf8 at) may none = none parts states
  by_codec faults.OneofTwice may none = none parts states
  by_codec faults.DuplicateKey may none = none parts states
  by_codec faults.TooLong may none = none parts states
  by_codec (faults.Wire e) may none = none parts states

  pub memory_alone : (e : FdsError) → MayRefuseSet bytes e → NoneIsStated bytes e → e ≡ errors.Memory
  memory_alone errors.Memory may none = refl
  memory_alone (errors.Bytes e) may none = absurd (by_codec e may none)
  memory_alone errors.NotProto3 may none = absurd (none parts states)
  memory_alone errors.BadType may none = absurd (none parts states)
  memory_alone errors.BadReference may none = absurd (none parts states)
  memory_alone (errors.Rule e) may none = absurd (none parts sound states)

module _ (readable : ReadAgainAreReadable) (parts : Parts) (bytes slice : List ℕ) (lent : slice ≡ bytes) (r : Result Parts FdsError) (states : IsReadable parts → fds_reads bytes parts) where
  states_lent : (again : IsReadAgain parts) → fds_reads slice parts
  states_lent again = subst (λ bs. fds_reads bs parts) (sym lent) (states (readable parts again))

  pub read_same : IfOk r (λ made. (ps : Parts) → fds_reads slice ps → parts_view made ≡ parts_view ps) → IfOk r (λ made. IsReadAgain parts → parts_view made ≡ parts_view parts)
  read_same h =
      IfOk-weaker r (λ made. (ps : Parts) → fds_reads slice ps → parts_view made ≡ parts_view ps) (λ made. IsReadAgain parts → parts_view made ≡ parts_view parts)
      (λ made same again. same parts (states_lent again)) h

  pub read_refused : IsSound parts → (are_shallow parts ≡ true → IsNotTooDeep bytes) → IfErr r (MayRefuseSet slice) → IfErr r (NoneIsStated slice) → IfErr r (λ e. IsReadAgain parts → (e ≡ errors.Memory) ⊎ IsTooLong parts e)
  read_refused sound level may none = all r may none
    where
      all : (o : Result Parts FdsError) → IfErr o (MayRefuseSet slice) → IfErr o (NoneIsStated slice) → IfErr o (λ e. IsReadAgain parts → (e ≡ errors.Memory) ⊎ IsTooLong parts e)
      all (Ok made) may none = tt
      all (Err e) may none =
          λ again. inl (memory_alone parts slice sound (states_lent again) (subst IsNotTooDeep (sym lent) (level again.shallow)) e may none)

-- ---- what is reported of any schema

pub write_refused : (parts : Parts) (e : FdsError) → (e ≡ errors.Memory) ⊎ IsTooLong parts e → MayRefuseAgain parts e
write_refused parts e (inl memory) = inl memory
write_refused parts e (inr long) = inr (inl long)

pub read_reported : (parts : Parts) (bytes slice : List ℕ) → slice ≡ bytes → fds parts bytes → (r : Result Parts FdsError) → IfErr r (MayRefuseSet slice) → IfErr r (NoneIsStated slice) → IfErr r (MayRefuseAgain parts)
read_reported parts bytes slice lent written (Ok made) may none = tt
read_reported parts bytes slice lent written (Err e) may none = inr (inr (bytes, (written, subst (λ bs. MayRefuseSet bs e × NoneIsStated bs e) lent (may, none))))

-- what is read of the schema's set is stated by it
pub read_stated : (parts : Parts) (bytes slice : List ℕ) → slice ≡ bytes → fds parts bytes → (r : Result Parts FdsError) → IfOk r (λ made. fds_reads slice made) → IfOk r (SetStates parts)
read_stated parts bytes slice lent written (Ok made) h = (bytes, (written, subst (λ bs. fds_reads bs made) lent h))
read_stated parts bytes slice lent written (Err e) h = tt
