use Rattle.pg_set.proofs.reading.undecoded.Goals as goal

pub returns-in_default : goal.returns-in_default
returns-in_default c = λ bytes refused. (c.in_default.not-Memory, refused)
