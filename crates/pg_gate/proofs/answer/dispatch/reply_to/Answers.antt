use Rattle.pg_gate.proofs.answer.dispatch.reply_to.Goals as goal

pub returns-in_ok-find-in-Gate-clause-answered : goal.returns-in_ok-find-in-Gate-clause-answered
returns-in_ok-find-in-Gate-clause-answered g c = rw c.in-Gate.is c.in_ok-find-in-Gate.ensures.found

pub returns-in_ok-all_found-in-GateAll-clause-answered : goal.returns-in_ok-all_found-in-GateAll-clause-answered
returns-in_ok-all_found-in-GateAll-clause-answered g c = rw c.in-GateAll.is c.in_ok-all_found-in-GateAll.ensures.found

pub returns-in_ok-shown-in-Show-clause-answered : goal.returns-in_ok-shown-in-Show-clause-answered
returns-in_ok-shown-in-Show-clause-answered g c = rw c.in-Show.is c.in_ok-shown-in-Show.ensures.shown

pub returns-in_ok-all_names-in-Types-clause-answered : goal.returns-in_ok-all_names-in-Types-clause-answered
returns-in_ok-all_names-in-Types-clause-answered g c = rw c.in-Types.is c.in_ok-all_names-in-Types.ensures.named
