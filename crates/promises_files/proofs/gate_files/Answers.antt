use Rattle.std.proofs.Common.{rules}
use Rattle.promises_files.proofs.gate_files.Goals as goal

pub returns-clause-answer : goal.returns-clause-answer
returns-clause-answer c = search rules

pub returns-clause-refused : goal.returns-clause-refused
returns-clause-refused c = search rules

pub returns-clause-old_counted : goal.returns-clause-old_counted
returns-clause-old_counted c = search rules

pub returns-clause-new_counted : goal.returns-clause-new_counted
returns-clause-new_counted c = search rules
