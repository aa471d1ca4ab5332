use Rattle.std.proofs.Common.{rules}
use Rattle.promises_cert.proofs.check.Goals as goal

pub returns-clause-holds : goal.returns-clause-holds
returns-clause-holds c = search rules

pub returns-clause-verdict : goal.returns-clause-verdict
returns-clause-verdict c = search rules

pub returns-clause-says : goal.returns-clause-says
returns-clause-says c = search rules

pub returns-clause-first_fault : goal.returns-clause-first_fault
returns-clause-first_fault c = search rules

pub returns-clause-refused : goal.returns-clause-refused
returns-clause-refused c = search rules
