use Rattle.pg_gate.proofs.lemmas.answer.VerifyLemmas.{check_fault}
use Rattle.pg_gate.proofs.answer.verifying.checked.Goals as goal

pub returns-in-Err-clause-refused : goal.returns-in-Err-clause-refused
returns-in-Err-clause-refused c bytes certifies =
    c.reported.ensures bytes (check_fault c.args.old.now c.args.new.now bytes c.args.certificate.now certifies c.in-Err.error c.in-Err.ensures.first_fault)
