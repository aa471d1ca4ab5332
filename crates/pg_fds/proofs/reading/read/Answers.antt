use Rattle.std.proofs.Common.{◌≡◌}
use Rattle.pg_schema.specs.declared.parts.Parts.{Parts}
use Rattle.pg_set.specs.round_trip.Readable.{IsReadable}
use Rattle.pg_set.specs.stated.Reads.{fds_reads}
use Rattle.pg_set.specs.stated.Views.{parts_view}
use Rattle.pg_fds.proofs.lemmas.Rules.{always, of_parts, parts_refused, parts_state_none, set_refused, set_states_none}
use Rattle.pg_fds.proofs.reading.read.Goals as goal

pub returns-in_err-parts-clause-refused : goal.returns-in_err-parts-clause-refused
returns-in_err-parts-clause-refused c =
    set_refused c.args.bytes.now c.from_residual.result c.in_err-parts.field-0.0 c.from_residual.ensures.1 c.in_err-parts.ensures.refused

pub returns-in_err-parts-clause-none_stated : goal.returns-in_err-parts-clause-none_stated
returns-in_err-parts-clause-none_stated c =
    set_states_none c.args.bytes.now c.from_residual.result c.in_err-parts.field-0.0 c.from_residual.ensures.1 c.in_err-parts.ensures.none_stated

pub returns : goal.returns
returns c =
    let bytes = c.args.bytes.now in
    let parts = c.in_ok-parts.parts in
    let stated = c.in_ok-parts.ensures in
    let r = c.admitted.result in
    let kept = c.admitted.ensures in
    record {
      ok = of_parts (fds_reads bytes) parts r kept.ok stated.ok;
      sound = kept.sound;
      level = always r stated.level;
      refused = parts_refused bytes parts stated.ok r kept.refused stated.level;
      same = of_parts (λ made. (others : Parts) → fds_reads bytes others → parts_view made ≡ parts_view others) parts r kept.ok stated.same;
      readable = of_parts IsReadable parts r kept.ok stated.readable;
      none_stated = parts_state_none bytes parts stated.ok r kept.refused c.alike_are_sound.ensures stated.same;
    }
