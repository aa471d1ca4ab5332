use Rattle.std.proofs.Common.{rules}
use Rattle.promises_cert.proofs.table.Goals as goal

pub returns-clause-table : goal.returns-clause-table
returns-clause-table c = search rules

pub returns-clause-checked : goal.returns-clause-checked
returns-clause-checked c = search rules

pub returns-clause-back : goal.returns-clause-back
returns-clause-back c = search rules

pub returns-clause-broken : goal.returns-clause-broken
returns-clause-broken c = search rules
