use Rattle.std.proofs.Common.{IfSome, subst}
use Rattle.pg_dyn.specs.fitting.ScalarItems.{IsItemOf}
use Rattle.pg_pairs.proofs.witness.content.key_content.Goals as goal

pub returns-in_ok-entry_content-in-Some-clause-taken : goal.returns-in_ok-entry_content-in-Some-clause-taken
returns-in_ok-entry_content-in-Some-clause-taken c = λ shape scalar element key.
    c.in_ok-entry_content-in-Some.ensures.taken shape scalar c.args.element (subst (λ o. IfSome o (IsItemOf scalar)) c.in-Some.is key) (c.in_ok-value-in-Some.ensures.fits shape element)
