use Rattle.pg_fds.proofs.reading.reported.Goals as goal

pub returns-in_default : goal.returns-in_default
returns-in_default c = λ parts refused. (refused, c.in_default.not-Memory)
