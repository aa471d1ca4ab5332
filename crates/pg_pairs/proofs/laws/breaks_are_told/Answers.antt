use Rattle.pg_pairs.proofs.lemmas.bounds.BreaksTold as BreaksTold
use Rattle.pg_pairs.proofs.laws.breaks_are_told.Goals as goal

pub returns : goal.returns
returns c = BreaksTold.breaks_are_told
