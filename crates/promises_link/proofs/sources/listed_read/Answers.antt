use Rattle.std.proofs.Common.{rules}
use Rattle.promises_link.proofs.sources.listed_read.Goals as goal

pub returns-clause-given : goal.returns-clause-given
returns-clause-given c = search rules

pub returns-clause-lacked : goal.returns-clause-lacked
returns-clause-lacked c = search rules

pub returns-clause-counted : goal.returns-clause-counted
returns-clause-counted c = search rules

pub returns-clause-same_given : goal.returns-clause-same_given
returns-clause-same_given c = search rules

pub returns-clause-same_lacked : goal.returns-clause-same_lacked
returns-clause-same_lacked c = search rules
