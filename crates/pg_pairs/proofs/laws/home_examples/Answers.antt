use Rattle.pg_pairs.proofs.lemmas.home.HomeExamples as HomeExamples
use Rattle.pg_pairs.proofs.laws.home_examples.Goals as goal

pub returns : goal.returns
returns c = HomeExamples.home_examples
