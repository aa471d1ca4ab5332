use Rattle.std.proofs.Common.{ℕ}
use Rattle.pg_schema.specs.Parts.{shape_of}
use Rattle.pg_dyn.specs.declared.message.Content.{Content}
use Rattle.pg_dyn.specs.setting.ContentFaults.{ContentFault}
use Rattle.pg_dyn.specs.inner.Reported.{TakesContent}
use Rattle.pg_dyn.proofs.lemmas.setting.ContentChecks.{takes_early}
use Rattle.pg_dyn.proofs.lemmas.setting.LowestFault.{reported_more, reported_all}
use Rattle.pg_dyn.proofs.setting.filling.check_contents.Goals as goal

pub loop-one-preserved : goal.loop-one-preserved
loop-one-preserved c =
    let shape = shape_of c.args.schema.now in
    let l = c.loop-one in
    reported_more (TakesContent shape c.args.type_id) (λ (x : ℕ × Content). ContentFault (shape_of c.args.schema.now) c.args.type_id x.0 x.1) (takes_early shape c.args.type_id) c.args.contents.now l.one-index c.one-item.result l.reported c.check_one.result
    c.lower-reported.result c.loop-one-test.true c.one-item.is l.invariant c.check_one.ensures c.lower-reported.ensures.one c.lower-reported.ensures.lowest

pub returns : goal.returns
returns c =
    let shape = shape_of c.args.schema.now in
    reported_all (TakesContent shape c.args.type_id) (λ (x : ℕ × Content). ContentFault (shape_of c.args.schema.now) c.args.type_id x.0 x.1) (takes_early shape c.args.type_id) c.args.contents.now c.loop-one.one-index c.loop-one.reported c.loop-one-test.false c.loop-one.invariant
