use Rattle.pg_pairs.proofs.lemmas.witness.Reached as Reached
use Rattle.pg_pairs.proofs.laws.each_choice_is_carried.Goals as goal

pub returns : goal.returns
returns c = Reached.choices_carried
