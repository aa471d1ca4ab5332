use Rattle.std.proofs.Common.{rules}
use Rattle.promises_link.proofs.sources.read_file.Goals as goal

pub returns-clause-given : goal.returns-clause-given
returns-clause-given g c = search rules

pub returns-clause-fault : goal.returns-clause-fault
returns-clause-fault g c = search rules

pub returns-clause-counted : goal.returns-clause-counted
returns-clause-counted g c = search rules

pub returns-clause-asked : goal.returns-clause-asked
returns-clause-asked g c = search rules

pub returns-clause-asked_once : goal.returns-clause-asked_once
returns-clause-asked_once g c = search rules

pub returns-clause-same_given : goal.returns-clause-same_given
returns-clause-same_given g c = search rules

pub returns-clause-same_lacked : goal.returns-clause-same_lacked
returns-clause-same_lacked g c = search rules
