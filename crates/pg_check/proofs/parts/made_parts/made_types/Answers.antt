use Rattle.pg_check.specs.inner.Grouped.{in_scope, grouped_tree}
use Rattle.pg_check.specs.parts.MadeParts.{IsTypeOf}
use Rattle.pg_check.specs.inner.CodeViews.{message}
use Rattle.pg_check.proofs.lemmas.parts.Eachs.{each-more}
use Rattle.pg_check.proofs.parts.made_parts.made_types.Goals as goal
use Rattle.pg_check.specs.inner.Sources.{target_in}

pub loop-one-preserved : goal.loop-one-preserved
loop-one-preserved c =
    each-more IsTypeOf (grouped_tree (target_in c.args.targets.now) (in_scope c.args.types.now) (in_scope c.args.enums.now)) message c.args.found.now c.loop-one.one-index
    c.one-item.result c.loop-one.made.items c.push.new.self.items c.in_ok-next.next c.loop-one-test.true c.one-item.is c.in_ok-push.ensures.items c.in_ok-next.ensures c.loop-one.invariant
