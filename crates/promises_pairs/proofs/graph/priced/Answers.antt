use Rattle.std.proofs.Common.{rules}
use Rattle.promises_pairs.proofs.graph.priced.Goals as goal

pub returns-clause-view : goal.returns-clause-view
returns-clause-view g c = search rules

pub returns-clause-old : goal.returns-clause-old
returns-clause-old g c = search rules

pub returns-clause-new : goal.returns-clause-new
returns-clause-new g c = search rules
