use Rattle.std.proofs.Common.{◌+◌, arith, subst, sym, ◌∙◌}
use Rattle.pg_set.specs.inner.reading.Made.{AreRanks}
use Rattle.pg_set.proofs.lemmas.reading.OneofRanks.{free_more, marked_more, ranks_more}
use Rattle.pg_set.proofs.reading.made_oneofs.ranks.Goals as goal
use Rattle.pg_set.proofs.reading.made_oneofs.ranks.Goals.{then-not-mark, else-not-mark}

pub loop-mark-preserved : goal.loop-mark-preserved
loop-mark-preserved c =
    let marks = c.args.marks.now in
    let place = c.loop-mark.mark-index in
    let inv = c.loop-mark.invariant in
    let found : AreRanks marks (place + 1) c.push.new.self.items =
    subst (AreRanks marks (place + 1)) (sym c.in_ok-push.ensures.items) (ranks_more marks place c.loop-mark.count c.loop-mark.found.items inv.counted inv.found) in
    elim c.if-not-mark.branch [
      | then-not-mark w ↦ record {
        counted = w.count-is ∙ free_more marks place c.loop-mark.count _ c.loop-mark-test.true w.if-not-mark.true inv.counted;
        few = omega (arith, w.count-is, inv.few);
        found = found;
      }
      | else-not-mark w ↦ record {
        counted = w.count-is ∙ marked_more marks place c.loop-mark.count _ c.loop-mark-test.true w.if-not-mark.false inv.counted;
        few = omega (arith, w.count-is, inv.few);
        found = found;
      }
    ]
