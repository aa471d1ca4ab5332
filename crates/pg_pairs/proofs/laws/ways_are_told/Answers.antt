use Rattle.pg_pairs.proofs.lemmas.bounds.WaysTold as WaysTold
use Rattle.pg_pairs.proofs.laws.ways_are_told.Goals as goal

pub returns : goal.returns
returns c = WaysTold.ways_are_told
