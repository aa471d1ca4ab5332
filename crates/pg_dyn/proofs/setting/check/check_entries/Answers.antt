use Rattle.pg_schema.specs.Parts.{shape_of}
use Rattle.pg_dyn.specs.inner.Reported.{EntryFault}
use Rattle.pg_dyn.specs.fitting.ContentFits.{EntryFits}
use Rattle.pg_dyn.proofs.lemmas.setting.ContentChecks.{entry_right}
use Rattle.pg_dyn.proofs.lemmas.setting.LowestFault.{reported_more, reported_all}
use Rattle.pg_dyn.proofs.setting.check.check_entries.Goals as goal

pub loop-entry-preserved : goal.loop-entry-preserved
loop-entry-preserved c =
    let shape = shape_of c.args.schema.now in
    let l = c.loop-entry in
    reported_more (EntryFits shape c.args.key c.args.element) (EntryFault shape c.args.key c.args.element) (entry_right shape c.args.key c.args.element) c.args.entries.now l.entry-index c.entry-item.result l.reported c.check_entry.result c.lower-reported.result c.loop-entry-test.true c.entry-item.is
    l.invariant c.check_entry.ensures c.lower-reported.ensures.one c.lower-reported.ensures.lowest

pub returns : goal.returns
returns c =
    let shape = shape_of c.args.schema.now in
    reported_all (EntryFits shape c.args.key c.args.element) (EntryFault shape c.args.key c.args.element) (entry_right shape c.args.key c.args.element) c.args.entries.now c.loop-entry.entry-index c.loop-entry.reported c.loop-entry-test.false c.loop-entry.invariant
