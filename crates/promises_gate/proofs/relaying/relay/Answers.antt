use Rattle.std.proofs.Common.{rules}
use Rattle.promises_gate.proofs.relaying.relay.Goals as goal

pub returns-clause-relayed : goal.returns-clause-relayed
returns-clause-relayed c = search rules

pub returns-clause-short : goal.returns-clause-short
returns-clause-short c = search rules

pub returns-clause-home : goal.returns-clause-home
returns-clause-home c = c.relay.ensures.home

pub returns-clause-refused : goal.returns-clause-refused
returns-clause-refused c = search rules
