use Rattle.pg_gate.proofs.lemmas.answer.Agreement as Types
use Rattle.pg_gate.proofs.laws.all_says_what_gate_says.Goals as goal

pub returns : goal.returns
returns c = Types.all_says_what_gate_says
