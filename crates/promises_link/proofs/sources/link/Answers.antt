use Rattle.std.proofs.Common.{rules}
use Rattle.promises_link.proofs.sources.link.Goals as goal

pub returns-clause-linked : goal.returns-clause-linked
returns-clause-linked g c = search rules

pub returns-clause-settled : goal.returns-clause-settled
returns-clause-settled g c = search rules

pub returns-clause-reads_apart : goal.returns-clause-reads_apart
returns-clause-reads_apart g c = search rules

pub returns-clause-reads_each : goal.returns-clause-reads_each
returns-clause-reads_each g c = search rules

pub returns-clause-counted : goal.returns-clause-counted
returns-clause-counted g c = search rules

pub returns-clause-same_given : goal.returns-clause-same_given
returns-clause-same_given g c = search rules

pub returns-clause-same_lacked : goal.returns-clause-same_lacked
returns-clause-same_lacked g c = search rules

pub returns-clause-refused : goal.returns-clause-refused
returns-clause-refused g c = search rules
