use Rattle.pg_schema.specs.declared.parts.field.Element.TheVariants as elements
use Rattle.pg_schema.specs.Parts.{shape_of}
use Rattle.pg_dyn.specs.setting.ContentFaults.{ElementFault}
use Rattle.pg_dyn.specs.fitting.ContentFits.{ItemFits}
use Rattle.pg_dyn.proofs.lemmas.setting.ContentChecks.{item_right}
use Rattle.pg_dyn.proofs.lemmas.setting.LowestFault.{reported_both}
use Rattle.pg_dyn.proofs.setting.check.check_entry.Goals as goal

pub returns : goal.returns
returns c =
    let shape = shape_of c.args.schema.now in
    let key = elements.Scalar c.args.key in
    reported_both (ItemFits shape key c.args.entry.now.0) (ItemFits shape c.args.element c.args.entry.now.1) (ElementFault shape key c.args.entry.now.0) (ElementFault shape c.args.element c.args.entry.now.1)
    (item_right shape key c.args.entry.now.0) (item_right shape c.args.element c.args.entry.now.1) c.check_element-of_key.result c.check_element.result c.lower.result c.check_element-of_key.ensures c.check_element.ensures c.lower.ensures.one
    c.lower.ensures.lowest
