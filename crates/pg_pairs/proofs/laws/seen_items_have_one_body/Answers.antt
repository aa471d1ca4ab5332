use Rattle.pg_pairs.proofs.lemmas.home.ReadBack as ReadBack
use Rattle.pg_pairs.proofs.laws.seen_items_have_one_body.Goals as goal

pub returns : goal.returns
returns c = ReadBack.seen_items_have_one_body
