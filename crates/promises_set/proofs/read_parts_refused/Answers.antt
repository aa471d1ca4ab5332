use Rattle.std.proofs.Common.{rules}
use Rattle.promises_set.proofs.read_parts_refused.Goals as goal

pub returns-clause-refused : goal.returns-clause-refused
returns-clause-refused c = search rules

pub returns-clause-none_stated : goal.returns-clause-none_stated
returns-clause-none_stated c = search rules
