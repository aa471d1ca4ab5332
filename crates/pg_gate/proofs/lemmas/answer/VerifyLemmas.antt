-- Why a certificate's bytes are refused, by what a checker answers; and this as the answer of two sides.
use Rattle.std.proofs.Common.{arith, ◌≡◌, ◌∙◌, ◌<◌, ◌⊎◌, ℕ, zero, suc, List, [], ◌∷◌, Bool, true, false, Option, Some, None, refl, ap, sym, subst, inl, inr, is_some, string_bytes, unwrap_or, slice_get, length}
use Rattle.std.specs.Option.{option_map, option_or}
use Rattle.std.specs.Prelude.{IsTrue}
use Rattle.clap.specs.Words.{Text}
use Rattle.pg_cert.specs.Certificate.{bound_in, Claim}
use Rattle.pg_cert.specs.ClaimView.{IsFirstFaultOf, view_in}
use Rattle.pg_cert.specs.Faults.{WitnessFaultIfThere, cheaper_choice, first_fault, first_pair_fault, missing_child, root_fault, too_high}
use Rattle.pg_cert.specs.Text.{Certifies, names_of}
use Rattle.pg_cert.specs.declared.bounds.PairBound.{PairBound}
use Rattle.pg_cert.specs.declared.error.CertError.{CertError}
use Rattle.pg_cert.specs.declared.error.CertError.TheVariants as checks
use Rattle.pg_pairs.specs.choices.Choices.{Table}
use Rattle.pg_pairs.specs.views.EnumView.{EnumView}
use Rattle.pg_pairs.specs.declared.choices.choice.Choice.{Choice}
use Rattle.pg_pairs.specs.declared.choices.choice.Pair.{Pair}
use Rattle.pg_schema.specs.Parts.{shape_of}
use Rattle.pg_schema.specs.Shape.{Shape}
use Rattle.pg_schema.specs.declared.parts.field.TypeId.{TypeId}
use Rattle.pg_schema.specs.declared.parts.message_type.MessageType.{MessageType}
use Rattle.pg_schema.specs.declared.parts.Parts.{Parts}
use Rattle.pg_least.specs.Loss.{IsNamed}
use Rattle.pg_gate.specs.Failures.{call_failures_at}
use Rattle.pg_gate.specs.answer.Files.{IsSide}
use Rattle.pg_gate.specs.answer.Grants.{IsSidesFault, IsVerified, IsVerifyError, as_given}
use Rattle.pg_gate.specs.answer.Verified.{HasFirstFault, IsClaimFault, IsFaultOfClaim, IsPlaceOf}
use Rattle.pg_gate.specs.inner.Claims.{IsClaimError, IsClaimRefusal, IsFound, IsUngiven, IsUntaken}
use Rattle.pg_gate.specs.declared.call_error.CallError.{CallError}
use Rattle.pg_gate.specs.declared.call_error.CallError.TheVariants as calls
use Rattle.pg_gate.specs.declared.call_error.CertificateFault.TheVariants as certificates
use Rattle.pg_gate.specs.declared.call_error.ClaimFault.{ClaimFault}
use Rattle.pg_lines.specs.declared.side.Side.{Side}
use Rattle.pg_lines.specs.declared.side.Side.TheVariants as sides
use Rattle.pg_gate.specs.declared.print.reply.Finding.{Finding}
use Rattle.pg_gate.proofs.lemmas.ErrorLemmas.{memory_is, of_memory, of_refused}
use Rattle.pg_link.specs.walk.Walk.{World}

-- ---- names

there : (f : MessageType → Text) (types : List MessageType) (at : ℕ) → at < length types → option_map f (slice_get types at) ≡ Some (unwrap_or (option_map f (slice_get types at)) [])
there f [] at within = absurd (omega arith)
there f (type ∷ types) zero within = refl
there f (type ∷ types) (suc at) within = there f types at (omega arith)

-- a type that is there has its name
pub named_by : (parts : Parts) (id : TypeId) (name : Text) → id.index < length parts.types.items → name ≡ names_of parts id → IsNamed parts name id
named_by parts id name within is = there (λ (t : MessageType). string_bytes t.name) parts.types.items id.index within ∙ ap Some (sym is)

-- ---- the first fault of a claim is never `BadText`

abbrev is_bad_text : CertError → Bool
is_bad_text checks.Memory = false
is_bad_text checks.BadText = true
is_bad_text checks.RootMissing = false
is_bad_text (checks.PairMissing pair) = false
is_bad_text (checks.BoundTooHigh pair number case) = false
is_bad_text checks.WitnessNotWritten = false
is_bad_text checks.WitnessLength = false
is_bad_text checks.WitnessKeeps = false

abbrev has_bad_text : Option CertError → Bool
has_bad_text None = false
has_bad_text (Some fault) = is_bad_text fault

neither : (a b : Option CertError) → has_bad_text a ≡ false → has_bad_text b ≡ false → has_bad_text (option_or a b) ≡ false
neither None b here there = there
neither (Some fault) b here there = here

no_child : (o : Option Pair) → has_bad_text (option_map (λ child. checks.PairMissing child) o) ≡ false
no_child None = refl
no_child (Some pair) = refl

no_choice : (pair : Pair) (o : Option Choice) → has_bad_text (option_map (too_high pair) o) ≡ false
no_choice pair None = refl
no_choice pair (Some choice) = refl

no_pair : (enum_view : EnumView) (old new : Shape) (table : Table) (bounds : List PairBound) → has_bad_text (first_pair_fault enum_view old new table bounds) ≡ false
no_pair enum_view old new table [] = refl
no_pair enum_view old new table (b ∷ bounds) =
    neither _ _ (neither _ _ (no_child (missing_child old new table b.pair)) (no_choice b.pair (cheaper_choice enum_view old new table b))) (no_pair enum_view old new table bounds)

no_root : (table : Table) (root : Pair) → has_bad_text (root_fault table root) ≡ false
no_root table root = of (is_some (table root)) refl
  where
    of : (b : Bool) → is_some (table root) ≡ b → has_bad_text (root_fault table root) ≡ false
    of true is = rw is refl
    of false is = rw is refl

no_bad_text : (enum_view : EnumView) (old new : Shape) (bounds : List PairBound) (root : Pair) → first_fault enum_view old new bounds root ≡ Some checks.BadText → ⊥
no_bad_text enum_view old new bounds root is =
    let no : has_bad_text (first_fault enum_view old new bounds root) ≡ false = neither _ _ (no_root (bound_in bounds) root) (no_pair enum_view old new (bound_in bounds) bounds) in
    let yes : has_bad_text (first_fault enum_view old new bounds root) ≡ true = ap has_bad_text is in
    cc

no_bad_witness : (enum_view : EnumView) (old new : Shape) (claim : Claim) (o : Option (List ℕ)) → WitnessFaultIfThere enum_view old new claim.root (bound_in claim.bounds claim.root) o checks.BadText → ⊥
no_bad_witness enum_view old new claim (Some bytes) is = is
no_bad_witness enum_view old new claim None is = is

-- ---- why bytes are refused

module _ (old new : Parts) (bytes : Text) where
  -- the fault that is reported of the checker's error, which says why the bytes are refused
  pub claim_fault : (error : CertError) (fault : ClaimFault) → fault.error ≡ error → IsPlaceOf old new error fault.location → (error ≡ checks.Memory → ⊥) → IsClaimRefusal old new bytes error
      → IsClaimFault old new bytes fault
  claim_fault error fault same placed other (inl memory) = absurd (other memory)
  claim_fault error fault same placed other (inr is) = record {
    is_fault = subst (λ e. IsFaultOfClaim old new bytes e) (sym same) is;
    is_place = subst (λ e. IsPlaceOf old new e fault.location) (sym same) placed;
  }

  -- bytes that aren't read certify nothing
  pub text_fault : (error : CertError) → (error ≡ checks.Memory) ⊎ ((error ≡ checks.BadText) × ((claim : Claim) → Certifies old new bytes claim → ⊥)) → IsClaimRefusal old new bytes error
  text_fault error (inl memory) = inl memory
  text_fault error (inr bad) = inr (subst (λ e. IsFaultOfClaim old new bytes e) (sym bad.0) bad.1)

  module _ (claim : Claim) (certifies : Certifies old new bytes claim) where
    abbrev IsCheckFault : CertError → Type 0
    IsCheckFault error = (error ≡ checks.Memory) ⊎ IsFirstFaultOf old new claim error

    no_bad_check : IsCheckFault checks.BadText → ⊥
    no_bad_check (inl memory) = cc
    no_bad_check (inr (inl first)) = no_bad_text (view_in old new claim) (shape_of old) (shape_of new) claim.bounds claim.root first
    no_bad_check (inr (inr witness)) = no_bad_witness (view_in old new claim) (shape_of old) (shape_of new) claim claim.witness witness.1

    by_first : (error : CertError) → (HasFirstFault old new bytes error → IsFaultOfClaim old new bytes error) → IsCheckFault error → IsClaimRefusal old new bytes error
    by_first error says (inl memory) = inl memory
    by_first error says (inr first) = inr (says (record { claim = claim; certifies = certifies; is_first = first }))

    -- the checker's error is the first fault
    pub check_fault : (error : CertError) → IsCheckFault error → IsClaimRefusal old new bytes error
    check_fault checks.Memory is = inl refl
    check_fault checks.BadText is = absurd (no_bad_check is)
    check_fault checks.RootMissing is = by_first checks.RootMissing (λ first. first) is
    check_fault (checks.PairMissing pair) is = by_first (checks.PairMissing pair) (λ first. first) is
    check_fault (checks.BoundTooHigh pair number case) is = by_first (checks.BoundTooHigh pair number case) (λ first. first) is
    check_fault checks.WitnessNotWritten is = by_first checks.WitnessNotWritten (λ first. first) is
    check_fault checks.WitnessLength is = by_first checks.WitnessLength (λ first. first) is
    check_fault checks.WitnessKeeps is = by_first checks.WitnessKeeps (λ first. first) is

-- ---- a source that is asked for a certificate

module _ (give : Text → Text → Bool) (lack : Text → Bool) (path : Text) (a b : Parts) where
  pub untaken_ungiven : (error : CallError) → IsUngiven lack path error → IsUntaken (as_given give lack) path a b error
  untaken_ungiven (calls.Gate error) is = is
  untaken_ungiven (calls.Certificate (certificates.Missing file)) is = is
  untaken_ungiven (calls.Certificate (certificates.Failed file)) is = is
  untaken_ungiven (calls.Certificate (certificates.Refused fault)) is = absurd is
  untaken_ungiven (calls.Bytes error) is = absurd is

  pub untaken_refused : (bytes : Text) → IsTrue (give path bytes) → (error : CallError) → IsClaimError a b bytes error → IsUntaken (as_given give lack) path a b error
  untaken_refused bytes given (calls.Gate error) is = is
  untaken_refused bytes given (calls.Certificate (certificates.Missing file)) is = absurd is
  untaken_refused bytes given (calls.Certificate (certificates.Failed file)) is = absurd is
  untaken_refused bytes given (calls.Certificate (certificates.Refused fault)) is = record { bytes = bytes; given = given; so = is }
  untaken_refused bytes given (calls.Bytes error) is = absurd is

  -- the new source isn't asked for a certificate
  pub untaken_uncounted : (error : CallError) → IsUntaken (as_given give lack) path a b error → call_failures_at sides.New error ≡ 0
  untaken_uncounted (calls.Gate error) is = of_memory sides.New error is
  untaken_uncounted (calls.Certificate fault) is = refl
  untaken_uncounted (calls.Bytes error) is = absurd is

-- ---- sides

module _ (path : Text) (source old new : World) (a b : Parts) (of_old : IsSide old a) (of_new : IsSide new b) where
  pub found_of_files : (finding : Finding) → IsFound source path a b finding → IsVerified path source old new finding
  found_of_files finding is = record { old_schema = a; new_schema = b; of_old = of_old; of_new = of_new; so = is }

  pub untaken_of_files : (error : CallError) → IsUntaken source path a b error → IsVerifyError path source old new error
  untaken_of_files (calls.Gate error) is = memory_is ⊥ ⊥ ⊥ (IsSidesFault old new) error is
  untaken_of_files (calls.Certificate (certificates.Missing file)) is = record { old_schema = a; new_schema = b; of_old = of_old; of_new = of_new; so = is }
  untaken_of_files (calls.Certificate (certificates.Failed file)) is = record { old_schema = a; new_schema = b; of_old = of_old; of_new = of_new; so = is }
  untaken_of_files (calls.Certificate (certificates.Refused fault)) is =
      record { old_schema = a; new_schema = b; of_old = of_old; of_new = of_new; so = is }
  untaken_of_files (calls.Bytes error) is = absurd is

-- no source failed where bytes are refused
pub claim_uncounted : (old new : Parts) (bytes : Text) (side : Side) (error : CallError) → IsClaimError old new bytes error → call_failures_at side error ≡ 0
claim_uncounted old new bytes side (calls.Gate error) is = of_memory side error is
claim_uncounted old new bytes side (calls.Certificate (certificates.Missing file)) is = absurd is
claim_uncounted old new bytes side (calls.Certificate (certificates.Failed file)) is = absurd is
claim_uncounted old new bytes side (calls.Certificate (certificates.Refused fault)) is = of_refused side
claim_uncounted old new bytes side (calls.Bytes error) is = absurd is
