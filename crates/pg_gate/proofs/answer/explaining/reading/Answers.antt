use Rattle.std.proofs.Common.{◌≡◌, inl, inr, rules}
use Rattle.std.proofs.lemmas.Result.{IfOk-weaker}
use Rattle.pg_dyn.specs.declared.error.DynError.TheVariants as messages
use Rattle.pg_gate.proofs.answer.explaining.reading.Goals as goal

pub returns-in-Ok : goal.returns-in-Ok
returns-in-Ok c = inl (record { shows = c.in-Ok.ensures.text; within = c.in-Ok.ensures.within })

pub returns-in-Err : goal.returns-in-Err
returns-in-Err c =
    let other : c.in-Err.error ≡ messages.Memory → ⊥ = search rules in
    IfOk-weaker c.refusal_line.result _ _ (λ text is. inr (record { error = c.in-Err.error; refused = record { is_reported = other; refuses = c.in-Err.ensures.refused }; line = is })) c.refusal_line.ensures
