-- Reading a whole certificate.
use Rattle.std.specs.Prelude.{codes, MatchResult, IfOk, IfErr}
use Rattle.std.proofs.Common.{◌≡◌, ℕ, true, false, List, [], ◌∷◌, ◌++◌, slice_index, Option, Result, Ok, Err, ap, sym, ◌∙◌, subst, append_assoc, true≢false}
use Rattle.std.specs.List.{AllByRecursion}
use Rattle.pg_schema.specs.declared.parts.Parts.{Parts}
use Rattle.pg_dyn.specs.declared.view_name.ViewName.{ViewName}
use Rattle.pg_pairs.specs.declared.choices.choice.Pair.{Pair}
use Rattle.pg_cert.specs.declared.bounds.PairBound.{PairBound}
use Rattle.pg_cert.specs.declared.error.CertError.{CertError}
use Rattle.pg_cert.specs.declared.error.CertError.TheVariants.{Memory}
use Rattle.pg_cert.specs.declared.heading.Heading.{Heading}
use Rattle.pg_cert.specs.Certificate.{Claim}
use Rattle.pg_cert.specs.Witness.{is_witness}
use Rattle.pg_cert.specs.inner.Reading.{IsRest, after_heading, front}
use Rattle.pg_cert.specs.Text.{Names, IsPairOf, IsClaimOf, HasTexts, names_of, text_of}
use Rattle.pg_cert.specs.inner.Lines.{heading_text, lines_text, last_text}
use Rattle.pg_cert.proofs.Spelling.{text-row}
use Rattle.pg_cert.proofs.WitnessRead.{last-row}

-- the string after its first words
pub head-row : (heading : Heading) (old new : Names) (claim : Claim) → text_of heading old new claim ≡ front heading ++ after_heading old new claim
head-row heading old new claim =
    text-row heading old new claim
    ∙ ap (λ t. heading_text heading ++ (codes "root " ++ t)) (row (old claim.root.old) (new claim.root.new) (lines_text old new claim.bounds ++ last_text claim.witness))
    ∙ sym (append_assoc (heading_text heading) (codes "root ") (after_heading old new claim))
  where
    row : (o n rest : List ℕ) → (o ++ (32 ∷ (n ++ 10 ∷ []))) ++ rest ≡ o ++ 32 ∷ (n ++ 10 ∷ rest)
    row o n rest = simp append_assoc

pub rest_of : (old new : Parts) (lines : List ℕ) (claim : Claim) → HasTexts old new claim → lines ≡ lines_text (names_of old) (names_of new) claim.bounds ++ last_text claim.witness → IsRest old new lines claim.bounds (last_text claim.witness)
rest_of old new lines claim is spelled = record {
  of_schemas = is.of_schemas.bounds;
  are = is.bounds;
  spelled = spelled;
  ends = ap (λ t. slice_index t 0) (last-row claim.witness);
}

-- what was made of the parts read
pub made : (found : Result Claim CertError) (view : ViewName) (root : Pair) (bounds : List PairBound) (witness : Option (List ℕ)) (claim : Claim) → IfOk found (λ c. c ≡ record { view = view; root = root; bounds = bounds; witness = witness }) → IfErr found (λ _. is_witness witness ≡ false) →
    view ≡ claim.view → root ≡ claim.root → bounds ≡ claim.bounds → witness ≡ claim.witness → is_witness claim.witness ≡ true → MatchResult found (λ c. c ≡ claim) (λ e. e ≡ Memory)
made (Ok c) view root bounds witness claim is none v a b d h = is ∙ (λ j. record { view = v j; root = a j; bounds = b j; witness = d j })
made (Err e) view root bounds witness claim is none v a b d h = absurd (true≢false (sym h ∙ ap is_witness (sym d) ∙ none))

pub made_of_schemas : (old new : Parts) (found : Result Claim CertError) (view : ViewName) (root : Pair) (bounds items : List PairBound) (witness : Option (List ℕ)) → IfOk found (λ c. c ≡ record { view = view; root = root; bounds = bounds; witness = witness }) →
    IsPairOf old new root → AllByRecursion (λ (b : PairBound). IsPairOf old new b.pair) items → bounds ≡ items → IfOk found (λ c. IsClaimOf old new c)
made_of_schemas old new (Ok c) view root bounds items witness is there each same =
    subst (IsClaimOf old new) (sym is) (record { root = there; bounds = subst (AllByRecursion (λ (b : PairBound). IsPairOf old new b.pair)) (sym same) each })
made_of_schemas old new (Err e) view root bounds items witness is there each same = tt

-- what was made has the view that it was made with
pub made_view : (found : Result Claim CertError) (view : ViewName) (root : Pair) (bounds : List PairBound) (witness : Option (List ℕ)) → IfOk found (λ c. c ≡ record { view = view; root = root; bounds = bounds; witness = witness }) → IfOk found (λ c. c.view ≡ view)
made_view (Ok c) view root bounds witness is = ap (λ (claim : Claim). claim.view) is
made_view (Err e) view root bounds witness is = tt
