use Rattle.pg_show.proofs.Worked as Worked
use Rattle.pg_show.proofs.laws.worked_rows.Goals as goal

pub returns : goal.returns
returns c = Worked.worked_rows c.fault_examples.ensures
