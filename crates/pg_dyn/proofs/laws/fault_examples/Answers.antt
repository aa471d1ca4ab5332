use Rattle.pg_dyn.proofs.lemmas.laws.FaultExamples as FaultExamples
use Rattle.pg_dyn.proofs.laws.fault_examples.Goals as goal

pub returns : goal.returns
returns c = FaultExamples.fault_examples
