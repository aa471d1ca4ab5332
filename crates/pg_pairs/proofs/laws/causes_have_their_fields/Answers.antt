use Rattle.pg_pairs.proofs.lemmas.choices.ToldLemmas as ToldLemmas
use Rattle.pg_pairs.proofs.laws.causes_have_their_fields.Goals as goal

pub returns : goal.returns
returns c = ToldLemmas.causes_have_their_fields
