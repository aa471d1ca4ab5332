use Rattle.std.proofs.Common.{◌<◌, subst, sym, heap_items}
use Rattle.pg_least.proofs.Steps.{skipped, settles, none_waits}
use Rattle.pg_least.proofs.relaxing.next_live.Goals as goal

pub returns-then-is_live-clause-settles : goal.returns-then-is_live-clause-settles
returns-then-is_live-clause-settles c graph all done bases level s =
    let live = c.is_live.ensures in
    let yes = c.if-is_live.true in
    settles graph all bases done c.args.costs.now c.args.settled.now (heap_items c.loop-cost.queue.heap) (heap_items c.pop.new.self.heap) level c.in-Some.cost c.in-Some.at c.in-Some.ensures.least
    (subst (λ n. c.in-Some.at < n) (sym c.requires) (live.within yes)) (live.fresh yes) (live.costs yes) (c.loop-cost.invariant graph all done bases level s)

pub loop-cost-preserved : goal.loop-cost-preserved
loop-cost-preserved c graph all done bases level s =
    skipped graph all bases done c.args.costs.now c.args.settled.now (heap_items c.loop-cost.queue.heap) (heap_items c.pop.new.self.heap) level c.in-Some.cost c.in-Some.at c.in-Some.ensures.least.moved
    (c.is_live.ensures.stale c.if-is_live.false) (c.loop-cost.invariant graph all done bases level s)

pub returns-clause-none : goal.returns-clause-none
returns-clause-none c graph all done bases level s =
    none_waits graph all done bases c.args.costs.now c.args.settled.now (heap_items c.loop-cost.queue.heap) level c.in_default.ensures.none (c.loop-cost.invariant graph all done bases level s)
