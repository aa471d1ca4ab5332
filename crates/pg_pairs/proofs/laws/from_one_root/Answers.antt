use Rattle.pg_pairs.proofs.lemmas.graph.Reaching as Reaching
use Rattle.pg_pairs.proofs.laws.from_one_root.Goals as goal

pub returns : goal.returns
returns c = Reaching.from_one_root
