-- A record that is no lower than the last comes after the others.
use Rattle.std.proofs.Common.{◌≤◌, get_or, take, sym, subst, []}
use Rattle.std.proofs.lemmas.List.{take_all, take_more}
use Rattle.std.specs.List.{AllByRecursion}
use Rattle.pg_wire.specs.declared.record.Record.{Record}
use Rattle.pg_wire.specs.declared.record.WireType.TheVariants.{Varint}
use Rattle.pg_dyn.specs.reading.Gathering.{NumbersRise}
use Rattle.pg_dyn.proofs.lemmas.reading.runs.NumberOrder.{highest_more, rise_more}
use Rattle.pg_dyn.proofs.reading.sorting.in_order.Goals as goal

none : Record
none = record { number = 0; wire_type = Varint; body = record { ref_ptr = (0, 0); now = [] }; bytes = record { ref_ptr = (0, 0); now = [] } }

pub loop-record-preserved : goal.loop-record-preserved
unfolding none
loop-record-preserved c =
    let rs = c.args.records.now in
    let i = c.loop-record.record-index in
    let more = take_more rs i none c.loop-record-test.true in
    record {
      rise = subst NumbersRise (sym more) (rise_more (take i rs)
          (get_or rs i none) c.loop-record.last c.loop-record.invariant.rise c.loop-record.invariant.highest c.if-record-last.false);
      highest = subst (AllByRecursion (λ (r : Record). r.number ≤ (get_or rs i none).number)) (sym more)
          (highest_more (take i rs) (get_or rs i none) c.loop-record.last c.loop-record.invariant.highest c.if-record-last.false);
    }

pub returns : goal.returns
returns c = λ _. subst NumbersRise (take_all c.loop-record.record-index c.args.records.now c.loop-record-test.false) c.loop-record.invariant.rise
