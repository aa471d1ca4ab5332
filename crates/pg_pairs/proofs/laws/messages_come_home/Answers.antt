use Rattle.pg_pairs.proofs.lemmas.home.Home as Home
use Rattle.pg_pairs.proofs.laws.messages_come_home.Goals as goal

pub returns : goal.returns
returns c = Home.messages_come_home c.reads_again.ensures c.kept_by_number.ensures
