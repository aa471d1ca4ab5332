use Rattle.pg_gate.proofs.lemmas.answer.Roots.{type_there}
use Rattle.pg_gate.proofs.answer.explaining.readings.Goals as goal

pub reading-requires : goal.reading-requires
reading-requires c = type_there c.args.old.now c.args.broken.now.pair.old c.requires.0

pub reading-requires-2 : goal.reading-requires-2
reading-requires-2 c = type_there c.args.new.now c.args.broken.now.pair.new c.requires.1
