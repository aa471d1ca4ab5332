use Rattle.pg_cert.proofs.Fronts.{after_only, after_found}
use Rattle.pg_cert.proofs.reading.after.Goals as goal

pub returns-clause-only : goal.returns-clause-only
returns-clause-only c = after_only c.args.text.now c.args.front.now c.strip_prefix.result c.strip_prefix.ensures.cases

pub returns-clause-found : goal.returns-clause-found
returns-clause-found c = after_found c.args.text.now c.args.front.now c.strip_prefix.result c.strip_prefix.ensures.cases
