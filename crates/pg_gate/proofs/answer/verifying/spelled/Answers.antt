use Rattle.pg_gate.proofs.lemmas.answer.VerifyLemmas.{text_fault}
use Rattle.pg_gate.proofs.answer.verifying.spelled.Goals as goal

pub returns-in-Err-clause-refused : goal.returns-in-Err-clause-refused
returns-in-Err-clause-refused c =
    c.reported.ensures c.args.bytes.now (text_fault c.args.old.now c.args.new.now c.args.bytes.now c.in-Err.error c.in-Err.ensures.refused)
