use Rattle.std.proofs.Common.{subst, sym}
use Rattle.pg_schema.specs.rules.Sound.{IsSound}
use Rattle.pg_fds.proofs.reading.admitted.Goals as goal

pub returns-in-Ok-clause-sound : goal.returns-in-Ok-clause-sound
returns-in-Ok-clause-sound c = subst IsSound (sym c.in-Ok.ensures.admitted) c.in-Ok.ensures.sound

pub returns-in-Err-clause-refused : goal.returns-in-Err-clause-refused
returns-in-Err-clause-refused c = c.reported.ensures c.args.parts c.in-Err.ensures.refused
