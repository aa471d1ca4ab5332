use Rattle.pg_call.proofs.OneCall as Calls
use Rattle.pg_call.proofs.laws.one_call.Goals as goal

pub returns : goal.returns
returns c = Calls.one_call
