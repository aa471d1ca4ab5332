use Rattle.pg_set.proofs.lemmas.round_trip.Deeper.{readable}
use Rattle.pg_set.proofs.laws.read_again_are_readable.Goals as goal

pub returns : goal.returns
returns c = readable
