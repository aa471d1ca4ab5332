use Rattle.std.proofs.Common.{get_or, arith, ap}
use Rattle.std.proofs.lemmas.Grind.{common_steps}
use Rattle.pg_check.specs.declared.rules.numbers.Keyed.{Keyed}
use Rattle.pg_check.specs.inner.NumberFaults.{at}
use Rattle.pg_check.specs.rules.Numbers.{is_same}
use Rattle.pg_check.proofs.lemmas.rules.FirstLaws.{again_more, again_found, was_new, was_old}
use Rattle.pg_check.proofs.rules.numbers.first_twice.Goals as goal

pub returns-then-not-branch : goal.returns-then-not-branch
returns-then-not-branch c =
    let d : Keyed = record { key = 0; at = 0 } in
    let x : Keyed = get_or c.args.keys.now c.loop-one.one-index d in
    ap (λ o. o) (again_found is_same at c.args.keys.now c.loop-one.one-index d _ c.loop-one-test.true
    (was_old _ _ _ c.in_ok-insert.ensures.added (c.loop-one.invariant.held x.key) c.if-not-branch.true) c.loop-one.invariant.left)

pub loop-one-preserved : goal.loop-one-preserved
loop-one-preserved c =
    let d : Keyed = record { key = 0; at = 0 } in
    let x : Keyed = get_or c.args.keys.now c.loop-one.one-index d in
    record {
      held = λ q. grind (arith, common_steps, c.loop-one.invariant.held q);
      left = again_more is_same at c.args.keys.now c.loop-one.one-index d _ c.loop-one-test.true
          (was_new _ _ _ c.in_ok-insert.ensures.added (c.loop-one.invariant.held x.key) c.if-not-branch.false) c.loop-one.invariant.left;
    }
