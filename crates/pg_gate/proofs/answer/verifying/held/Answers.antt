use Rattle.std.proofs.Common.{◌≡◌, ◌∙◌, ap, subst, sym}
use Rattle.pg_cert.specs.Text.{names_of}
use Rattle.pg_pairs.specs.declared.choices.choice.Pair.{Pair}
use Rattle.pg_gate.specs.inner.Claims.{IsClaimError}
use Rattle.pg_gate.specs.declared.call_error.CallError.{CallError}
use Rattle.pg_gate.proofs.lemmas.ErrorLemmas.{IfErr-IsErrAnd}
use Rattle.pg_gate.proofs.lemmas.answer.VerifyLemmas.{named_by}
use Rattle.pg_gate.proofs.answer.verifying.held.Goals as goal

pub returns-in_err-verdict-clause-refused : goal.returns-in_err-verdict-clause-refused
returns-in_err-verdict-clause-refused c =
    let error : CallError = c.in_err-verdict.field-0.0 in
    let refused = c.in_err-verdict.ensures.refused c.args.bytes.now c.in_ok-certificate.ensures.certifies in
    IfErr-IsErrAnd c.from_residual-in_err-verdict.result (λ e. e ≡ error) (λ e. IsClaimError c.args.old.now c.args.new.now c.args.bytes.now e) c.from_residual-in_err-verdict.ensures.1
    (λ e same. subst (λ e. IsClaimError c.args.old.now c.args.new.now c.args.bytes.now e) (sym same) refused)

pub returns-clause-found : goal.returns-clause-found
returns-clause-found c =
    let certifies = c.in_ok-certificate.ensures.certifies in
    record {
      claim = c.in_ok-certificate.certificate;
      certifies = certifies;
      holds = c.in_ok-verdict.ensures.holds;
      verdict_is = c.in_ok-verdict.ensures.verdict;
      says = c.in_ok-verdict.ensures.says;
      named = named_by c.args.old.now c.in_ok-certificate.certificate.root.old _ certifies.has_texts.of_schemas.root.0 (c.in_ok-name.ensures ∙ ap (λ (pair : Pair). names_of c.args.old.now pair.old) c.root-root.ensures.root);
      length_is = c.witness_length-length.ensures;
    }
