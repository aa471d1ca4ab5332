use Rattle.pg_show.proofs.Words as Words
use Rattle.pg_show.proofs.laws.words_read_again.Goals as goal

pub returns : goal.returns
returns c = Words.words_read_again
