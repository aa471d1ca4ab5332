use Rattle.std.proofs.Common.{◌≡◌, ◌∙◌, eqb, inl, inr, refl, ap, ap₂, sym, true≢false}
use lib.Pointwise.{pointwise}
use Rattle.pg_cert.specs.declared.heading.Heading.{Heading}
use Rattle.pg_cert.specs.Certificate.{Claim}
use Rattle.pg_cert.specs.Text.{names_of, text_of}
use Rattle.pg_cert.proofs.WordsRead.{bytes_same}
use Rattle.pg_cert.proofs.reading.from_text.Goals as goal

pub returns-in-Err-clause-refused : goal.returns-in-Err-clause-refused
returns-in-Err-clause-refused c =
    elim c.text_fault.ensures [
      | inl memory ↦ inl memory.1
      | inr other ↦ inr (other.1, λ claim is. other.0 (c.in-Err.ensures.found claim is))
    ]

pub returns-then-eq-clause-alone : goal.returns-then-eq-clause-alone
returns-then-eq-clause-alone c = λ claim is. (c.in-Ok.ensures.found claim is).1

-- what is written again of the claim that the bytes spell are the bytes
pub returns-else-eq-clause-refused : goal.returns-else-eq-clause-refused
returns-else-eq-clause-refused c =
    inr (
      refl,
      λ claim is.
          let read = c.in-Ok.ensures.found claim is in
          let same : c.as_bytes.result.now ≡ c.args.bytes.now =
          c.as_bytes.ensures.value ∙ c.in_ok-again.ensures.spelled ∙ ap₂ (λ (h : Heading) (x : Claim). text_of h (names_of c.args.old.now) (names_of c.args.new.now) x) read.0 read.1 ∙ sym is.spelled in
          true≢false (sym (bytes_same c.args.bytes.now) ∙ ap (λ xs. pointwise eqb xs c.args.bytes.now) (sym same) ∙ sym c.eq.ensures ∙ c.if-eq.false),
    )
