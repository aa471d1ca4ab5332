use Rattle.pg_cert.proofs.WorkedTexts as Worked
use Rattle.pg_cert.proofs.laws.worked_texts.Goals as goal

pub returns : goal.returns
returns c = Worked.worked_texts
