use Rattle.std.proofs.Common.{rules}
use Rattle.promises_link.proofs.sources.folder.Goals as goal

pub returns-clause-failures : goal.returns-clause-failures
returns-clause-failures g c = search rules

pub returns-clause-reads : goal.returns-clause-reads
returns-clause-reads g c = search rules
