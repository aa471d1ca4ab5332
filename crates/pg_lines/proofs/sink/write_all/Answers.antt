-- What this write took goes on from what the writes before it took.
use Rattle.std.proofs.Common.{arith, take, drop, append_assoc}
use Rattle.std.proofs.Math.Seq.{take-add}
use Rattle.std.proofs.lemmas.List.{take_rest}
use Rattle.pg_lines.proofs.sink.write_all.Goals as goal

pub loop-written-preserved : goal.loop-written-preserved
loop-written-preserved g c =
    let bytes = c.args.bytes.now in
    let before = c.loop-written.written in
    let count = c.in_ok-written.field-0 in
    let rest = take_rest bytes before in
    let joined = append_assoc (g.W.Sink.taken c.args.sink.now) (take before bytes) (take count (drop before bytes)) in
    record {
      within = omega (arith, c.in_ok-written.ensures.within);
      taken = rw (take-add before count bytes) (cc (c.in_ok-written.ensures.took, c.loop-written.invariant.taken));
      failures = grind (arith, c.in_ok-written.ensures.counted, c.loop-written.invariant.failures);
    }
