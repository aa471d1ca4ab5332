-- Two strings that spell a claim in one version are equal.
use Rattle.std.proofs.Common.{◌≡◌, ℕ, List, refl, ap, sym, ◌∙◌, arith}
use Rattle.pg_schema.specs.declared.parts.Parts.{Parts}
use Rattle.pg_dyn.specs.declared.view_name.ViewName.TheVariants as views
use Rattle.pg_cert.specs.declared.heading.Heading.{Heading}
use Rattle.pg_cert.specs.declared.heading.Heading.TheVariants as headings
use Rattle.pg_cert.specs.Certificate.{Claim}
use Rattle.pg_cert.specs.laws.CertificateLaws.{IsTextIn, OneTextInEachVersion, version_of}
use Rattle.pg_cert.specs.Text.{names_of, text_of, view_of}

one_heading : (a b : Heading) → version_of a ≡ version_of b → view_of a ≡ view_of b → a ≡ b
one_heading headings.First headings.First version view = refl
one_heading headings.First (headings.Second other) version view = absurd (omega (arith, version))
one_heading (headings.Second one) headings.First version view = absurd (omega (arith, version))
one_heading (headings.Second one) (headings.Second other) version view = ap (λ v. headings.Second v) view

alone : (old new : Parts) (claim : Claim) (version : ℕ) (a b : List ℕ) → IsTextIn version old new a claim → IsTextIn version old new b claim → a ≡ b
alone old new claim version a b is other =
    let same = one_heading is.certifies.heading other.certifies.heading (is.version_is ∙ sym other.version_is) (is.certifies.viewed ∙ sym other.certifies.viewed) in
    is.certifies.spelled ∙ ap (λ (h : Heading). text_of h (names_of old) (names_of new) claim) same ∙ sym other.certifies.spelled

first_means_numbers : (heading : Heading) → version_of heading ≡ 1 → view_of heading ≡ views.Names → ⊥
first_means_numbers headings.First version view = absurd (cc)
first_means_numbers (headings.Second other) version view = absurd (omega (arith, version))

pub one_text_in_each_version : OneTextInEachVersion
one_text_in_each_version = record {
  first = λ old new claim texts view. (
    text_of headings.First (names_of old) (names_of new) claim,
    record {
      certifies = record { has_texts = texts; heading = headings.First; viewed = sym view; spelled = refl };
      version_is = refl;
    },
  );
  second = λ old new claim texts. (
    text_of (headings.Second claim.view) (names_of old) (names_of new) claim,
    record {
      certifies = record { has_texts = texts; heading = headings.Second claim.view; viewed = refl; spelled = refl };
      version_is = refl;
    },
  );
  alone = alone;
  none_by_names = λ old new claim text view is. first_means_numbers is.certifies.heading is.version_is (is.certifies.viewed ∙ view);
}
