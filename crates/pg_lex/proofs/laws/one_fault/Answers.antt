use Rattle.pg_lex.proofs.OneFault.{one_fault, fault_or_tokens}
use Rattle.pg_lex.proofs.laws.one_fault.Goals as goal

pub returns-clause-one : goal.returns-clause-one
returns-clause-one c = one_fault

pub returns-clause-alone : goal.returns-clause-alone
returns-clause-alone c = fault_or_tokens
