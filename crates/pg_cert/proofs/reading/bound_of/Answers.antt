use Rattle.std.proofs.Common.{◌≡◌, Some, sym, ◌∙◌, ap, subst}
use Rattle.std.specs.Str.{IsUtf8}
use Rattle.pg_cert.proofs.WordsRead.{same_bytes, none_said, number_said, bound_utf8, other_word}
use Rattle.pg_cert.proofs.reading.bound_of.Goals as goal

pub returns-then-eq : goal.returns-then-eq
returns-then-eq c =
    λ bound h is. ap Some (sym (none_said bound h (sym is ∙ same_bytes c.args.word.now c.as_slice.result.now (sym c.eq.ensures ∙ c.if-eq.true) ∙ c.as_slice.ensures)))

pub returns-in-Ok-parse : goal.returns-in-Ok-parse
returns-in-Ok-parse c =
    λ bound h is.
    let said = number_said bound c.in-Ok.text.now c.parse.result h (c.in-Ok.ensures.cases.0 ∙ is)
    (λ none. other_word c.args.word.now c.as_slice.result.now c.as_slice.ensures (sym c.eq.ensures ∙ c.if-eq.false) (sym c.in-Ok.ensures.cases.0 ∙ none)) c.parse.ensures.value.0 in
    let same : c.in-Ok-parse.bytes ≡ said.0 = let there = said.2 in let is_ok = c.in-Ok-parse.is in cc in
    ap Some (ap Some same ∙ sym said.1)

pub returns-in-Err-parse : goal.returns-in-Err-parse
returns-in-Err-parse c =
    λ bound h is.
    let said = number_said bound c.in-Ok.text.now c.parse.result h (c.in-Ok.ensures.cases.0 ∙ is)
    (λ none. other_word c.args.word.now c.as_slice.result.now c.as_slice.ensures (sym c.eq.ensures ∙ c.if-eq.false) (sym c.in-Ok.ensures.cases.0 ∙ none)) c.parse.ensures.value.0 in
    absurd (let there = said.2 in let is_err = c.in-Err-parse.is in cc)

pub returns-in-Err : goal.returns-in-Err
returns-in-Err c = λ bound h is. absurd (c.in-Err.ensures.cases.0 (subst IsUtf8 (sym is) (bound_utf8 bound h)))
