use Rattle.std.proofs.Common.{get_or, pos}
use Rattle.pg_set.specs.stated.FileMessages.{is_place}
use Rattle.pg_set.proofs.lemmas.writing.FileLaws.{same_default}
use Rattle.pg_set.proofs.lemmas.reading.OneofLaws.{is_one, marks_step}
use Rattle.pg_set.proofs.lemmas.order.SetLaws.{all_step}
use Rattle.pg_set.proofs.reading.made_oneofs.marks.Goals as goal

pub loop-number-preserved : goal.loop-number-preserved
loop-number-preserved c =
    let numbers = c.args.numbers.now in
    let i = c.loop-number.number-index in
    let n = get_or numbers i (pos 0) in
    record {
      marked = marks_step numbers i c.in_ok-place.place c.args.count c.loop-number.marks.items c.loop-number-test.true c.in_ok-place.ensures.ok c.in_ok-place.ensures.within c.loop-number.invariant.marked;
      places = all_step (is_place c.args.count) numbers i n c.loop-number-test.true (same_default numbers i (pos 0) n c.loop-number-test.true) c.loop-number.invariant.places
          (is_one c.args.count n c.in_ok-place.place c.in_ok-place.ensures.ok c.in_ok-place.ensures.within);
    }
