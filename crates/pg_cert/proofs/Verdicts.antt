-- What a certificate that holds shows is true.
use Rattle.std.proofs.Common.{◌≡◌, ◌⊎◌, inl, inr, ℕ, List, length, true, Option, Some, None, Ok, Err, is_some, refl, ap, sym, ◌∙◌, subst, true≢false}
use Rattle.pg_schema.specs.Shape.{Shape}
use Rattle.pg_schema.specs.ShapeRules.{IsShape}
use Rattle.pg_dyn.specs.declared.view_name.ViewName.{ViewName}
use Rattle.pg_pairs.specs.declared.choices.choice.Pair.{Pair}
use Rattle.pg_pairs.specs.views.EnumView.{EnumView}
use Rattle.pg_pairs.specs.views.ViewLaws.{IsEnumView}
use Rattle.pg_pairs.specs.bounds.Covering.{Covers}
use Rattle.pg_pairs.specs.bounds.Laws.{CoveringBounds, NoneIsCompatible}
use Rattle.pg_cert.specs.declared.bounds.PairBound.{PairBound}
use Rattle.pg_cert.specs.declared.verdict.Verdict.{Verdict}
use Rattle.pg_cert.specs.declared.verdict.Verdict.TheVariants as verdicts
use Rattle.pg_cert.specs.declared.error.CertError.{CertError}
use Rattle.pg_cert.specs.declared.error.CertError.TheVariants as errors
use Rattle.pg_cert.specs.Certificate.{are_bounds, bound_in, Claim, Holds, IsWitnessed, IsWitnessedIfThere}
use Rattle.pg_cert.specs.Verdict.{bound_verdict, verdict_of, Says}
use Rattle.pg_cert.specs.inner.Checked.{IsChecked}
use Rattle.pg_cert.specs.Faults.{WitnessFault, WitnessFaultIfThere, first_fault}
use Rattle.pg_cert.specs.laws.CertificateLaws.{CoversWithoutFault, VerdictsAreTrue, WitnessFaultsAreReal}

module _ (covering : CoveringBounds) (compatible : NoneIsCompatible) (enum_view : EnumView) (old new : Shape) (view : ViewName) (root : Pair) (bounds : List PairBound) (is_enum_view : IsEnumView enum_view) (is_old : IsShape old) (is_new : IsShape new) where
  of_bound : (bound : Option (Option ℕ)) → bound_in bounds root ≡ bound → Covers enum_view old new (bound_in bounds) root → Says enum_view old new (record { view = view; root = root; bounds = bounds; witness = None }) (bound_verdict bound)
  of_bound (Some (Some n)) found covers = λ v breaks. covering enum_view old new (bound_in bounds) root is_enum_view is_old is_new covers root (Some n) found v breaks
  of_bound (Some None) found covers = compatible enum_view old new (bound_in bounds) root is_enum_view is_old is_new covers root found
  of_bound None found covers = absurd (true≢false (sym covers.root_there ∙ ap is_some found))

  of_witness : (witness : Option (List ℕ)) → Holds enum_view old new (record { view = view; root = root; bounds = bounds; witness = witness }) → Says enum_view old new (record { view = view; root = root; bounds = bounds; witness = witness }) (verdict_of (record { view = view; root = root; bounds = bounds; witness = witness }))
  of_witness None holds = of_bound (bound_in bounds root) refl holds.covers
  of_witness (Some bytes) holds =
      let is = holds.witnessed in (
        bytes,
        refl,
        record {
          message = is.message;
          breaks = is.breaks;
          written = is.written;
          least = record {
            message = is.message;
            breaks = is.breaks;
            length_is = ap length is.written;
            least = λ v breaks. covering enum_view old new (bound_in bounds) root is_enum_view is_old is_new holds.covers root (Some (length bytes)) is.length_is v breaks;
          };
        },
      )

pub verdicts_are_true : CoveringBounds → NoneIsCompatible → VerdictsAreTrue
verdicts_are_true covering compatible enum_view old new claim is_enum_view is_old is_new holds = of_witness covering compatible enum_view old new claim.view claim.root claim.bounds is_enum_view is_old is_new claim.witness holds

-- ---- what a checker answers

module _ (enum_view : EnumView) (old new : Shape) (claim : Claim) where
  abbrev bound : Option (Option ℕ)
  bound = bound_in claim.bounds claim.root

  found : VerdictsAreTrue → IsEnumView enum_view → IsShape old → IsShape new → Holds enum_view old new claim → (verdict : Verdict) → verdict ≡ verdict_of claim → IsChecked enum_view old new claim (Ok verdict)
  found true_ is_enum_view is_old is_new holds verdict is = record {
    holds = holds;
    verdict = is;
    says = subst (Says enum_view old new claim) (sym is) (true_ enum_view old new claim is_enum_view is_old is_new holds);
    first_fault = tt;
    refused = tt;
  }

  -- a claim without a witness whose table has no fault
  pub found_alone : VerdictsAreTrue → IsEnumView enum_view → IsShape old → IsShape new → Covers enum_view old new (bound_in claim.bounds) claim.root → claim.witness ≡ None
      → (verdict : Verdict) → verdict ≡ bound_verdict bound → IsChecked enum_view old new claim (Ok verdict)
  found_alone true_ is_enum_view is_old is_new covers no_witness verdict is =
      found true_ is_enum_view is_old is_new
      (record { covers = covers; witnessed = subst (IsWitnessedIfThere enum_view old new claim.root bound) (sym no_witness) tt }) verdict
      (is ∙ without claim.witness no_witness)
    where
      without : (witness : Option (List ℕ)) → witness ≡ None → bound_verdict bound ≡ verdict_of (record { view = claim.view; root = claim.root; bounds = claim.bounds; witness = witness })
      without None h = refl
      without (Some bytes) h = absurd (cc)

  module _ (bytes : List ℕ) (there : claim.witness ≡ Some bytes) where
    -- one with a witness
    pub found_witnessed : VerdictsAreTrue → IsEnumView enum_view → IsShape old → IsShape new → Covers enum_view old new (bound_in claim.bounds) claim.root
        → IsWitnessed enum_view old new claim.root bound bytes → IsChecked enum_view old new claim (Ok verdicts.Breaks)
    found_witnessed true_ is_enum_view is_old is_new covers witnessed =
        found true_ is_enum_view is_old is_new
        (record { covers = covers; witnessed = subst (IsWitnessedIfThere enum_view old new claim.root bound) (sym there) witnessed }) verdicts.Breaks
        (with_one claim.witness there)
      where
        with_one : (witness : Option (List ℕ)) → witness ≡ Some bytes → verdicts.Breaks ≡ verdict_of (record { view = claim.view; root = claim.root; bounds = claim.bounds; witness = witness })
        with_one None h = absurd (cc)
        with_one (Some xs) h = refl

    -- one whose witness has a fault
    pub bad_witness : WitnessFaultsAreReal → first_fault enum_view old new claim.bounds claim.root ≡ None → (e : CertError) → (e ≡ errors.Memory) ⊎ WitnessFault enum_view old new claim.root bound bytes e
        → IsChecked enum_view old new claim (Err e)
    bad_witness real faultless e (inl memory) = record { holds = tt; verdict = tt; says = tt; first_fault = inl memory; refused = inl memory }
    bad_witness real faultless e (inr fault) = record {
      holds = tt;
      verdict = tt;
      says = tt;
      first_fault = inr (inr (faultless, subst (λ witness. WitnessFaultIfThere enum_view old new claim.root bound witness e) (sym there) fault));
      refused = inr (λ holds. real enum_view old new claim.root bound bytes e fault (subst (IsWitnessedIfThere enum_view old new claim.root bound) there holds.witnessed));
    }

  -- one whose table has a fault
  pub bad_table : CoversWithoutFault → are_bounds claim.bounds ≡ true → (e : CertError) → (e ≡ errors.Memory) ⊎ (first_fault enum_view old new claim.bounds claim.root ≡ Some e)
      → IsChecked enum_view old new claim (Err e)
  bad_table covered bounds e (inl memory) = record { holds = tt; verdict = tt; says = tt; first_fault = inl memory; refused = inl memory }
  bad_table covered bounds e (inr fault) = record {
    holds = tt;
    verdict = tt;
    says = tt;
    first_fault = inr (inl fault);
    refused = inr (λ holds. none_there ((covered enum_view old new claim.bounds claim.root bounds).1 holds.covers));
  }
    where
      none_there : first_fault enum_view old new claim.bounds claim.root ≡ None → ⊥
      none_there none = let no : ◌≡◌ {A = Option CertError} None (Some e) = sym none ∙ fault in cc
