use Rattle.std.proofs.Common.{⊎_elim, arith}
use Rattle.std.proofs.lemmas.Bool.{cases_lt}
use Rattle.pg_dyn.proofs.oneofs.each_oneof_once.Goals as goal

pub loop-first-preserved : goal.loop-first-preserved
loop-first-preserved c = (
  omega (arith, c.loop-first-test.true),
  λ o below.
      ⊎_elim (λ early. c.loop-first.invariant.1 o early) (λ from. c.once_in_window.ensures.once c.if-not-once_in_window.false o from below)
      (cases_lt o c.loop-first.first),
)

pub returns-clause-once : goal.returns-clause-once
returns-clause-once c = λ e o.
    ⊎_elim (λ early. c.loop-first.invariant.1 o early)
    (λ from. let none = c.oneofs_end-end.ensures.none o (omega (arith, c.loop-first-test.false, from)) in omega (arith, none))
    (cases_lt o c.loop-first.first)
