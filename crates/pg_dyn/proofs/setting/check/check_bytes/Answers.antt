use Rattle.std.proofs.Common.{refl, sym, ap, inr, true≢false}
use Rattle.std.proofs.lemmas.Str.{is_utf8-from_IsUtf8, IsUtf8-from_is_utf8}
use Rattle.pg_dyn.specs.word.Coding.{scalar_form}
use Rattle.pg_dyn.proofs.setting.check.check_bytes.Goals as goal

pub returns-in-Ok-clause-fits : goal.returns-in-Ok-clause-fits
returns-in-Ok-clause-fits c = rw c.in-String.is ((λ e. is_utf8-from_IsUtf8 c.args.bytes.now c.in-Ok.ensures.cases.1), λ h. refl)

pub returns-in-Err-clause-fits : goal.returns-in-Err-clause-fits
returns-in-Err-clause-fits c =
    rw c.in-String.is ((λ e. absurd (true≢false (sym e))), λ h. absurd (c.in-Err.ensures.cases.0 (IsUtf8-from_is_utf8 c.args.bytes.now h)))

pub returns-in-Err-clause-fault : goal.returns-in-Err-clause-fault
returns-in-Err-clause-fault c = inr (c.valid_up_to.result, refl, ap scalar_form c.in-String.is, rw c.valid_up_to.ensures c.in-Err.ensures.cases.1)
