use Rattle.pg_dyn.proofs.lemmas.fitting.FitsSteps.{other_default}
use Rattle.pg_dyn.proofs.message.Value.order.Goals as goal

pub returns-in_default-4 : goal.returns-in_default-4
returns-in_default-4 c = other_default c.args.self.now c.args.other.now c.requires.first c.in_default.not-Int-0 c.in_default.not-Text-0 c.in_default.not-Bytes-0
