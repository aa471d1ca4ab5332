use Rattle.std.proofs.Common.{rules}
use Rattle.promises_gate.proofs.gate_with.Goals as goal

pub returns-clause-answer : goal.returns-clause-answer
returns-clause-answer c = search rules

pub returns-clause-old_missing : goal.returns-clause-old_missing
returns-clause-old_missing c = search rules

pub returns-clause-new_missing : goal.returns-clause-new_missing
returns-clause-new_missing c = search rules

pub returns-clause-refused : goal.returns-clause-refused
returns-clause-refused c = search rules
