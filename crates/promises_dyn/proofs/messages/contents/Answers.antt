use Rattle.std.proofs.Common.{rules}
use Rattle.promises_dyn.proofs.messages.contents.Goals as goal

pub returns-clause-whole : goal.returns-clause-whole
returns-clause-whole c = search rules

pub returns-clause-rises : goal.returns-clause-rises
returns-clause-rises c = search rules

pub returns-clause-filled : goal.returns-clause-filled
returns-clause-filled c = search rules
