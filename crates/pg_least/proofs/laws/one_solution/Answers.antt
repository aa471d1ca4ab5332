use Rattle.pg_least.proofs.OneSolution as lemmas
use Rattle.pg_least.proofs.laws.one_solution.Goals as goal

pub returns : goal.returns
returns c = lemmas.one_solution
