use Rattle.std.proofs.Common.{◌≡◌, ◌∙◌, Some, ap, refl, string_bytes, subst, sym}
use Rattle.std.proofs.lemmas.Result.{IfErr-weaker, IfOk-weaker}
use Rattle.pg_gate.specs.inner.Showing.{IsShowFault}
use Rattle.pg_gate.specs.declared.call_error.CallError.{CallError}
use Rattle.pg_gate.specs.declared.call_error.CallError.TheVariants as calls
use Rattle.pg_gate.proofs.lemmas.ErrorLemmas.{IfErr-IsErrAnd}
use Rattle.pg_least.proofs.PublicLaws.{named_types_are_there}
use Rattle.pg_gate.proofs.lemmas.answer.ShowLemmas.{shown_there, unread_there, unspelled_there}
use Rattle.pg_gate.proofs.answer.showing.shown_by.Goals as goal

pub lines_of-requires : goal.lines_of-requires
lines_of-requires c =
    let named = (c.in-Some.ensures c.in-Some.type_id).0 refl in
    named_types_are_there c.args.schema.now c.args.root.now c.in-Some.type_id named

pub returns-in_err-bytes-clause-refused : goal.returns-in_err-bytes-clause-refused
returns-in_err-bytes-clause-refused c =
    let named = (c.in-Some.ensures c.in-Some.type_id).0 refl in
    let error : CallError = calls.Gate c.in_err-bytes.field-0.0 in
    let refused = unspelled_there c.args.schema.now c.args.root.now c.args.word.now c.in-Some.type_id named c.in_err-bytes.field-0.0 c.in_err-bytes.ensures.refused in
    IfErr-IsErrAnd c.from_residual.result (λ e. e ≡ error) (λ e. IsShowFault c.args.schema.now c.args.root.now c.args.word.now e) c.from_residual.ensures.1
    (λ e same. subst (λ e. IsShowFault c.args.schema.now c.args.root.now c.args.word.now e) (sym same) refused)

pub returns-clause-shown : goal.returns-clause-shown
returns-clause-shown c =
    let named = (c.in-Some.ensures c.in-Some.type_id).0 refl in
    let spelled = c.in_ok-bytes.ensures.bytes ∙ ap Some (sym c.deref.ensures.value) in
    IfOk-weaker c.lines_of.result _ _ (λ text is. shown_there c.args.schema.now c.args.root.now c.args.word.now c.in-Some.type_id named c.deref.result.now spelled (string_bytes text) is) c.lines_of.ensures.shown

pub returns-clause-refused : goal.returns-clause-refused
returns-clause-refused c =
    let named = (c.in-Some.ensures c.in-Some.type_id).0 refl in
    let spelled = c.in_ok-bytes.ensures.bytes ∙ ap Some (sym c.deref.ensures.value) in
    IfErr-weaker c.lines_of.result _ _ (λ error is. unread_there c.args.schema.now c.args.root.now c.args.word.now c.in-Some.type_id named c.deref.result.now spelled error is) c.lines_of.ensures.refused
