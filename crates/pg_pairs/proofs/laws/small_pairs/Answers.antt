use Rattle.pg_pairs.proofs.lemmas.choices.SmallPairs as SmallPairs
use Rattle.pg_pairs.proofs.laws.small_pairs.Goals as goal

pub returns : goal.returns
returns c = SmallPairs.small_pairs
