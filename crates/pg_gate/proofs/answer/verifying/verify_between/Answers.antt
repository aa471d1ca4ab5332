use Rattle.std.proofs.Common.{◌≡◌, subst, sym}
use Rattle.std.proofs.lemmas.Result.{IfErr-weaker, IfOk-weaker}
use Rattle.std.specs.Prelude.{IsTrue}
use Rattle.pg_gate.specs.Failures.{call_failures_at}
use Rattle.pg_gate.specs.answer.Grants.{as_given}
use Rattle.pg_gate.specs.inner.Claims.{IsClaimError, IsUntaken}
use Rattle.pg_gate.specs.declared.call_error.CallError.{CallError}
use Rattle.pg_lines.specs.declared.side.Side.TheVariants as sides
use Rattle.pg_gate.proofs.lemmas.ErrorLemmas.{IfErr-IsErrAnd, none_counted}
use Rattle.pg_gate.proofs.lemmas.answer.SourceLemmas.{no_more, passed}
use Rattle.pg_gate.proofs.lemmas.answer.VerifyLemmas.{claim_uncounted, untaken_refused, untaken_ungiven}
use Rattle.pg_gate.proofs.answer.verifying.verify_between.Goals as goal

pub returns-in_err-bytes-clause-refused : goal.returns-in_err-bytes-clause-refused
returns-in_err-bytes-clause-refused g c =
    let give = g.S.Sources.may_give c.args.source.now in
    let lack = g.S.Sources.may_lack c.args.source.now in
    let path = c.args.path.now in
    let a = c.args.both.now.old.schema in
    let b = c.args.both.now.new.schema in
    let error : CallError = c.in_err-bytes.field-0.0 in
    let told : IsUntaken (as_given give lack) path a b error = untaken_ungiven give lack path a b error c.in_err-bytes.ensures.refused in
    IfErr-IsErrAnd c.from_residual.result (λ e. e ≡ error) (λ e. IsUntaken (as_given give lack) path a b e) c.from_residual.ensures.1
    (λ e same. subst (λ e. IsUntaken (as_given give lack) path a b e) (sym same) told)

pub returns-in_err-bytes-clause-reads : goal.returns-in_err-bytes-clause-reads
returns-in_err-bytes-clause-reads g c =
    passed g.S.Sources c.args.source.now _ c.from_residual.result (call_failures_at sides.Old) c.in_err-bytes.field-0.0 c.from_residual.ensures.1 c.in_err-bytes.ensures.reads

pub returns-clause-found : goal.returns-clause-found
returns-clause-found g c =
    let path = c.args.path.now in
    let given : IsTrue (g.S.Sources.may_give c.args.source.now path c.deref.result.now) = subst (λ b. IsTrue (g.S.Sources.may_give c.args.source.now path b)) (sym c.deref.ensures.value) c.in_ok-bytes.ensures.given in
    IfOk-weaker c.held.result _ _ (λ finding is. record { bytes = c.deref.result.now; given = given; so = is }) c.held.ensures.found

pub returns-clause-refused : goal.returns-clause-refused
returns-clause-refused g c =
    let give = g.S.Sources.may_give c.args.source.now in
    let path = c.args.path.now in
    let both = c.args.both.now in
    let given : IsTrue (give path c.deref.result.now) = subst (λ b. IsTrue (give path b)) (sym c.deref.ensures.value) c.in_ok-bytes.ensures.given in
    IfErr-weaker c.held.result _ _ (λ error is. untaken_refused give (g.S.Sources.may_lack c.args.source.now) path both.old.schema both.new.schema c.deref.result.now given error is) c.held.ensures.refused

pub returns-clause-reads : goal.returns-clause-reads
returns-clause-reads g c =
    let both = c.args.both.now in
    let none = none_counted c.held.result (λ e. IsClaimError both.old.schema both.new.schema c.deref.result.now e) (call_failures_at sides.Old) (λ e is. claim_uncounted both.old.schema both.new.schema c.deref.result.now sides.Old e is) c.held.ensures.refused in
    no_more g.S.Sources c.args.source.now _ _ none c.in_ok-bytes.ensures.reads
