use Rattle.pg_check.proofs.lemmas.parts.uses.ResolvedTypes.{resolved_alone, resolved_types}
use Rattle.pg_check.proofs.laws.resolved_types.Goals as goal

pub returns-clause-resolved : goal.returns-clause-resolved
returns-clause-resolved c linked parts up h = resolved_types linked parts up h

pub returns-clause-alone : goal.returns-clause-alone
returns-clause-alone c files parts file scope name one other h k = resolved_alone files parts file scope name one other h k
