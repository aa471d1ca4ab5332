use Rattle.std.proofs.Common.{IfSome, subst}
use Rattle.pg_dyn.specs.fitting.ContentFits.{ItemFits}
use Rattle.pg_pairs.proofs.witness.content.value_content.Goals as goal

pub returns-in_ok-entry_content-in-Some-clause-taken : goal.returns-in_ok-entry_content-in-Some-clause-taken
returns-in_ok-entry_content-in-Some-clause-taken c = λ shape element fits.
    c.in_ok-entry_content-in-Some.ensures.taken shape c.args.key element c.in_ok-key-in-Some.ensures.item (subst (λ o. IfSome o (ItemFits shape element)) c.in-Some.is fits)
