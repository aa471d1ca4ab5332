use Rattle.std.proofs.Common.{refl}
use Rattle.pg_set.proofs.laws.worked_stated.Goals as goal

pub returns : goal.returns
returns c = record { map = refl; files = refl }
