use Rattle.std.proofs.Common.{◌≡◌, string_bytes, subst, sym}
use Rattle.std.proofs.lemmas.Result.{IfErr-weaker, IfOk-weaker}
use Rattle.pg_gate.specs.Failures.{call_failures_at}
use Rattle.pg_gate.specs.answer.Grants.{IsShowError}
use Rattle.pg_call.specs.Paths.{paths_in}
use Rattle.pg_gate.specs.inner.Sources.{world_of}
use Rattle.pg_gate.specs.inner.Showing.{IsShowFault}
use Rattle.pg_gate.specs.declared.call_error.CallError.{CallError}
use Rattle.pg_gate.specs.declared.call_error.CallError.TheVariants as calls
use Rattle.pg_lines.specs.declared.side.Side.TheVariants as sides
use Rattle.pg_gate.proofs.lemmas.ErrorLemmas.{IfErr-IsErrAnd, none_counted}
use Rattle.pg_gate.proofs.lemmas.answer.ShowLemmas.{of_files, refused_of_files, shown_of_files, shown_uncounted}
use Rattle.pg_gate.proofs.lemmas.answer.SourceLemmas.{no_more, passed}
use Rattle.pg_gate.proofs.answer.showing.shown.Goals as goal

pub returns-in_err-schema-clause-refused : goal.returns-in_err-schema-clause-refused
returns-in_err-schema-clause-refused g c =
    let asked = c.args.asked.now in
    let w = world_of g.S.Sources c.args.source.now (paths_in asked.files) in
    let error : CallError = calls.Gate c.in_err-schema.field-0.0 in
    let refused : IsShowError w asked.root.now asked.word.now error = of_files w asked.root.now asked.word.now c.in_err-schema.field-0.0 c.in_err-schema.ensures.refused in
    IfErr-IsErrAnd c.from_residual.result (λ e. e ≡ error) (λ e. IsShowError w asked.root.now asked.word.now e) c.from_residual.ensures.1
    (λ e same. subst (λ e. IsShowError w asked.root.now asked.word.now e) (sym same) refused)

pub returns-in_err-schema-clause-reads : goal.returns-in_err-schema-clause-reads
returns-in_err-schema-clause-reads g c =
    passed g.S.Sources c.args.source.now _ c.from_residual.result (call_failures_at sides.Old) (calls.Gate c.in_err-schema.field-0.0) c.from_residual.ensures.1
    c.in_err-schema.ensures.reads

pub returns-clause-shown : goal.returns-clause-shown
returns-clause-shown g c =
    let asked = c.args.asked.now in
    let w = world_of g.S.Sources c.args.source.now (paths_in asked.files) in
    let schema = c.in_ok-schema.field-0.schema in
    IfOk-weaker c.shown_by.result _ _ (λ text is. shown_of_files w asked.root.now asked.word.now schema c.in_ok-schema.ensures.compiled (string_bytes text) is) c.shown_by.ensures.shown

pub returns-clause-refused : goal.returns-clause-refused
returns-clause-refused g c =
    let asked = c.args.asked.now in
    let w = world_of g.S.Sources c.args.source.now (paths_in asked.files) in
    let schema = c.in_ok-schema.field-0.schema in
    IfErr-weaker c.shown_by.result _ _ (λ error is. refused_of_files w asked.root.now asked.word.now schema c.in_ok-schema.ensures.compiled error is) c.shown_by.ensures.refused

pub returns-clause-reads : goal.returns-clause-reads
returns-clause-reads g c =
    let asked = c.args.asked.now in
    let schema = c.in_ok-schema.field-0.schema in
    let none = none_counted c.shown_by.result (λ e. IsShowFault schema asked.root.now asked.word.now e) (call_failures_at sides.Old)
    (λ e is. shown_uncounted schema asked.root.now asked.word.now sides.Old e is) c.shown_by.ensures.refused in
    no_more g.S.Sources c.args.source.now _ _ none c.in_ok-schema.ensures.reads
