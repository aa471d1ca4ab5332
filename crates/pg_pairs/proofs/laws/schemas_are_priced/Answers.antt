use Rattle.pg_pairs.proofs.lemmas.graph.EdgeLaws as EdgeLaws
use Rattle.pg_pairs.proofs.laws.schemas_are_priced.Goals as goal

pub returns : goal.returns
returns c = EdgeLaws.are_priced
