use Rattle.std.proofs.Common.{rules}
use Rattle.promises_schema.proofs.from_parts_refused.Goals as goal

pub returns-clause-back : goal.returns-clause-back
returns-clause-back c = search rules

pub returns-clause-broken : goal.returns-clause-broken
returns-clause-broken c = search rules
