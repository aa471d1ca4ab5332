use Rattle.std.proofs.Common.{rules}
use Rattle.promises_link.proofs.sources.folder_read.Goals as goal

pub returns-clause-counted : goal.returns-clause-counted
returns-clause-counted g c = search rules

pub returns-clause-asked : goal.returns-clause-asked
returns-clause-asked g c = search rules
