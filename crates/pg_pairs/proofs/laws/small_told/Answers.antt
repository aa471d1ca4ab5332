use Rattle.pg_pairs.proofs.lemmas.choices.SmallTold as SmallTold
use Rattle.pg_pairs.proofs.laws.small_told.Goals as goal

pub returns : goal.returns
returns c = SmallTold.small_told
