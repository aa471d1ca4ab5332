use Rattle.std.proofs.Common.{refl, inl, inr}
use Rattle.std.proofs.lemmas.Result.{IfOk-weaker}
use Rattle.pg_call.specs.Call.{request_of}
use Rattle.pg_gate.specs.Run.{answered, unfailed}
use Rattle.pg_gate.proofs.lemmas.RunLemmas.{nothing_came}
use Rattle.pg_gate.proofs.program.run.Goals as goal

-- Usage is answered to arguments that `clap` doesn't take.
pub returns-in-Err-clause-usage : goal.returns-in-Err-clause-usage
returns-in-Err-clause-usage g c = IfOk-weaker c.usage.result _ _ (λ status is same. inl (c.in-Err.ensures.refused is.1, refl, refl)) c.usage.ensures.usage

pub returns-in-Err-clause-begun : goal.returns-in-Err-clause-begun
returns-in-Err-clause-begun g c = λ failed. inr (c.in-Err.ensures.refused (c.usage.ensures.refused failed), refl, refl)

-- Where memory runs out before an answer is found, no source failed. After that, each failed as the answer says.
pub returns-in-Err-clause-lacking : goal.returns-in-Err-clause-lacking
returns-in-Err-clause-lacking g c = λ memory. unfailed (refl, refl)

pub returns-in_err-answer-clause-lacking : goal.returns-in_err-answer-clause-lacking
returns-in_err-answer-clause-lacking g c = λ memory. unfailed c.in_err-answer.ensures.lacking

pub returns-in_err-output-clause-lacking : goal.returns-in_err-output-clause-lacking
returns-in_err-output-clause-lacking g c =
    λ memory. answered (request_of c.call_of-call.result) c.in_ok-answer.field-0 (c.call_of-call.ensures _ c.in-Ok.ensures.taken) c.in_ok-answer.ensures.granted

pub returns-in_err-write_all-clause-lacking : goal.returns-in_err-write_all-clause-lacking
returns-in_err-write_all-clause-lacking g c =
    λ memory. answered (request_of c.call_of-call.result) c.in_ok-answer.field-0 (c.call_of-call.ensures _ c.in-Ok.ensures.taken) c.in_ok-answer.ensures.granted

pub returns-in_err-answer-clause-kept : goal.returns-in_err-answer-clause-kept
returns-in_err-answer-clause-kept g c = nothing_came _ _ refl

pub returns-in_err-output-clause-kept : goal.returns-in_err-output-clause-kept
returns-in_err-output-clause-kept g c = nothing_came _ _ refl

pub returns-in_err-write_all-clause-kept : goal.returns-in_err-write_all-clause-kept
returns-in_err-write_all-clause-kept g c = record { more = _; is = c.in_err-write_all.ensures.front.1 }

pub returns-clause-kept : goal.returns-clause-kept
returns-clause-kept g c = record { more = _; is = c.in_ok-write_all.ensures.whole }

-- A run that has an answer had a call.
pub returns-in_err-answer-clause-uncalled : goal.returns-in_err-answer-clause-uncalled
returns-in_err-answer-clause-uncalled g c = λ no. absurd (no (record { call = request_of c.call_of-call.result; called = (c.call_of-call.ensures _ c.in-Ok.ensures.taken) }))

pub returns-in_err-output-clause-uncalled : goal.returns-in_err-output-clause-uncalled
returns-in_err-output-clause-uncalled g c = λ no. absurd (no (record { call = request_of c.call_of-call.result; called = (c.call_of-call.ensures _ c.in-Ok.ensures.taken) }))

pub returns-in_err-write_all-clause-uncalled : goal.returns-in_err-write_all-clause-uncalled
returns-in_err-write_all-clause-uncalled g c = λ no. absurd (no (record { call = request_of c.call_of-call.result; called = (c.call_of-call.ensures _ c.in-Ok.ensures.taken) }))

pub returns-clause-uncalled : goal.returns-clause-uncalled
returns-clause-uncalled g c = λ no. absurd (no (record { call = request_of c.call_of-call.result; called = (c.call_of-call.ensures _ c.in-Ok.ensures.taken) }))
