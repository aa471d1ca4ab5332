use Rattle.pg_order.proofs.lemmas.Sights as Sights
use Rattle.pg_order.proofs.laws.worked_sights.Goals as goal

pub returns : goal.returns
returns c = Sights.worked_sights
