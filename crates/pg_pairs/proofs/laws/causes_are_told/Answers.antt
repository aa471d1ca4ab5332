use Rattle.pg_pairs.proofs.lemmas.choices.ToldLemmas as ToldLemmas
use Rattle.pg_pairs.proofs.laws.causes_are_told.Goals as goal

pub returns : goal.returns
returns c = ToldLemmas.causes_are_told
