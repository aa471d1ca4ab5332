use Rattle.pg_pairs.proofs.lemmas.witness.TakenItems.{if_ok_map}
use Rattle.pg_pairs.proofs.witness.content.lost_items.Goals as goal

pub returns-in_default-clause-taken : goal.returns-in_default-clause-taken
returns-in_default-clause-taken c = if_ok_map c.plain_content.result (λ content h. λ shape unmapped element. h shape unmapped (c.in_ok-zero.ensures.fits shape element)) c.plain_content.ensures.taken
