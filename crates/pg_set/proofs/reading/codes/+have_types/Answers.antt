use Rattle.std.proofs.Common.{◌-◌}
use Rattle.pg_dyn.specs.message.Kept.{message_of}
use Rattle.pg_set.specs.stated.Codes.{has_types, have_types}
use Rattle.pg_set.proofs.lemmas.reading.CodeLaws.{all_typed, here_typed, tested_more}
use Rattle.pg_set.proofs.reading.codes.+have_types.Goals as goal

pub loop-message-preserved : goal.loop-message-preserved
loop-message-preserved t c =
    let m = c.message-item.result in
    let inside = have_types (c.args.depth - 1) in
    tested_more (has_types inside) c.args.messages.now c.loop-message.message-index m c.loop-message.all c.both-here.result c.both-so_far.result c.loop-message-test.true c.message-item.is
    c.loop-message.invariant c.both-so_far.ensures
    (here_typed inside (message_of m) c.as_slice-fields.result.now c.in_ok-own.own.items c.as_slice-types.result.now c.in_ok-inside.inside.items c.are_taken-taken.result c.in_ok-deep.deep c.both-here.result
    c.as_slice-fields.ensures.value c.in_ok-own.ensures c.as_slice-types.ensures.value c.in_ok-inside.ensures c.are_taken-taken.ensures c.in_ok-deep.ensures c.both-here.ensures)

pub returns : goal.returns
returns t c =
    all_typed c.args.depth c.args.messages.now c.loop-message.message-index c.loop-message.all c.if-depth-eq0.false c.loop-message-test.false c.loop-message.invariant
