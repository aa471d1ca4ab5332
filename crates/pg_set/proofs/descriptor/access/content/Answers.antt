use Rattle.pg_set.proofs.lemmas.descriptor.HeldFits.{found_said}
use Rattle.pg_set.proofs.descriptor.access.content.Goals as goal

pub returns-clause-said : goal.returns-clause-said
returns-clause-said c = found_said c.args.number c.message.inside.message.now c.get.result c.get.ensures.content c.message.invariant
