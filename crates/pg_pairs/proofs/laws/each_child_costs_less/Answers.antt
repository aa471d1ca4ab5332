use Rattle.pg_pairs.proofs.lemmas.witness.Reached as Reached
use Rattle.pg_pairs.proofs.laws.each_child_costs_less.Goals as goal

pub returns : goal.returns
returns c = Reached.child_costs_less
