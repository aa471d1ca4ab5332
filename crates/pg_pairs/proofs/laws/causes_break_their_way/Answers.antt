use Rattle.pg_pairs.proofs.lemmas.witness.OwnWays as OwnWays
use Rattle.pg_pairs.proofs.laws.causes_break_their_way.Goals as goal

pub returns : goal.returns
returns c = OwnWays.causes_break_their_way
