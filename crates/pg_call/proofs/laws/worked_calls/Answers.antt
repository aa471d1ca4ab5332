use Rattle.pg_call.proofs.WorkedCalls as Calls
use Rattle.pg_call.proofs.laws.worked_calls.Goals as goal

pub returns : goal.returns
returns c = Calls.worked_calls
