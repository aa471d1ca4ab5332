use Rattle.pg_schema.specs.Parts.{shape_of}
use Rattle.pg_dyn.specs.setting.ContentFaults.{ElementFault}
use Rattle.pg_dyn.specs.fitting.ContentFits.{ItemFits}
use Rattle.pg_dyn.proofs.lemmas.setting.ContentChecks.{item_right}
use Rattle.pg_dyn.proofs.lemmas.setting.LowestFault.{reported_more, reported_all}
use Rattle.pg_dyn.proofs.setting.check.check_values.Goals as goal

pub loop-value-preserved : goal.loop-value-preserved
loop-value-preserved c =
    let shape = shape_of c.args.schema.now in
    let l = c.loop-value in
    reported_more (ItemFits shape c.args.element) (ElementFault shape c.args.element) (item_right shape c.args.element) c.args.values.now l.value-index c.value-item.result l.reported c.check_element.result c.lower-reported.result c.loop-value-test.true c.value-item.is
    l.invariant c.check_element.ensures c.lower-reported.ensures.one c.lower-reported.ensures.lowest

pub returns : goal.returns
returns c =
    let shape = shape_of c.args.schema.now in
    reported_all (ItemFits shape c.args.element) (ElementFault shape c.args.element) (item_right shape c.args.element) c.args.values.now c.loop-value.value-index c.loop-value.reported c.loop-value-test.false c.loop-value.invariant
