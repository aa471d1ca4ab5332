use Rattle.pg_pairs.proofs.lemmas.choices.Apart as Apart
use Rattle.pg_pairs.proofs.laws.causes_are_apart.Goals as goal

pub returns : goal.returns
returns c = Apart.causes_are_apart
