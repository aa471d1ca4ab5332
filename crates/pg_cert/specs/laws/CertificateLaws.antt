-- Laws of tables, faults and claims.
use Rattle.std.specs.Prelude.{◌≡◌, ◌↔◌, ℕ, true, List, Option, None}
use Rattle.pg_schema.specs.declared.parts.Parts.{Parts}
use Rattle.pg_schema.specs.Invariant.{IsSchema}
use Rattle.pg_schema.specs.Shape.{Shape}
use Rattle.pg_schema.specs.ShapeRules.{IsShape}
use Rattle.pg_dyn.specs.declared.view_name.ViewName.TheVariants as views
use Rattle.pg_pairs.specs.declared.choices.choice.Pair.{Pair}
use Rattle.pg_pairs.specs.views.EnumView.{EnumView}
use Rattle.pg_pairs.specs.views.ViewLaws.{IsEnumView}
use Rattle.pg_pairs.specs.bounds.Covering.{Covers}
use Rattle.pg_cert.specs.declared.bounds.PairBound.{PairBound}
use Rattle.pg_cert.specs.declared.error.CertError.{CertError}
use Rattle.pg_cert.specs.declared.heading.Heading.{Heading}
use Rattle.pg_cert.specs.declared.heading.Heading.TheVariants as headings
use Rattle.pg_cert.specs.Certificate.{are_bounds, bound_in, Claim, Holds, IsWitnessed}
use Rattle.pg_cert.specs.Faults.{first_fault, WitnessFault}
use Rattle.pg_cert.specs.Text.{Certifies, HasTexts}
use Rattle.pg_cert.specs.Verdict.{Says, verdict_of}

-- A table of distinct pairs covers its root where it has no fault, and nowhere else.
abbrev pub CoversWithoutFault : Type 0
CoversWithoutFault =
    (enum_view : EnumView) (old new : Shape) (bounds : List PairBound) (root : Pair) → are_bounds bounds ≡ true →
    (first_fault enum_view old new bounds root ≡ None) ↔ Covers enum_view old new (bound_in bounds) root

-- A witness with a fault is none.
abbrev pub WitnessFaultsAreReal : Type 0
WitnessFaultsAreReal =
    (enum_view : EnumView) (old new : Shape) (root : Pair) (bound : Option (Option ℕ)) (bytes : List ℕ)
    (fault : CertError) → WitnessFault enum_view old new root bound bytes fault
    → IsWitnessed enum_view old new root bound bytes → ⊥

-- The verdict of a claim that holds is true.
abbrev pub VerdictsAreTrue : Type 0
VerdictsAreTrue =
    (enum_view : EnumView) (old new : Shape) (claim : Claim) → IsEnumView enum_view → IsShape old → IsShape new
    → Holds enum_view old new claim → Says enum_view old new claim (verdict_of claim)

-- the version that a heading is of
abbrev pub version_of : Heading → ℕ
version_of headings.First = 1
version_of (headings.Second view) = 2

-- the string spells the claim in that version
pub record IsTextIn (version : ℕ) (old new : Parts) (text : List ℕ) (claim : Claim) : Type 0 where
  pub certifies : Certifies old new text claim
  pub version_is : version_of certifies.heading ≡ version

-- A claim that can be written has one spelling in version 2, and by numbers one in version 1. It has no other, and by
-- names none in version 1.
pub record OneTextInEachVersion : Type 0 where
  pub first : (old new : Parts) (claim : Claim) → HasTexts old new claim → claim.view ≡ views.Numbers
      → (text : List ℕ) × IsTextIn 1 old new text claim
  pub second : (old new : Parts) (claim : Claim) → HasTexts old new claim
      → (text : List ℕ) × IsTextIn 2 old new text claim
  pub alone : (old new : Parts) (claim : Claim) (version : ℕ) (a b : List ℕ) → IsTextIn version old new a claim
      → IsTextIn version old new b claim → a ≡ b
  pub none_by_names : (old new : Parts) (claim : Claim) (text : List ℕ) → claim.view ≡ views.Names
      → IsTextIn 1 old new text claim → ⊥

-- A string certifies one claim at most.
abbrev pub OneSpelling : Type 0
OneSpelling =
    (old new : Parts) (text : List ℕ) (a b : Claim) → IsSchema old → IsSchema new → Certifies old new text a
    → Certifies old new text b → a ≡ b
