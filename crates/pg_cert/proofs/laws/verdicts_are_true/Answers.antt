use Rattle.pg_cert.proofs.Verdicts as Verdicts
use Rattle.pg_cert.proofs.laws.verdicts_are_true.Goals as goal

pub returns : goal.returns
returns c = Verdicts.verdicts_are_true c.covering_bounds.ensures c.none_is_compatible.ensures
