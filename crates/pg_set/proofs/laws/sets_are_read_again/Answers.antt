use Rattle.pg_set.proofs.lemmas.round_trip.StatedSets.{sets_again}
use Rattle.pg_set.proofs.laws.sets_are_read_again.Goals as goal

pub returns : goal.returns
returns c = sets_again
