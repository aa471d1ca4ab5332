use Rattle.std.proofs.Common.{arith}
use Rattle.pg_gate.proofs.lemmas.answer.Cursors.{passed}
use Rattle.pg_gate.proofs.answer.cursor.gone_on.Goals as goal

pub overflow_add-result-then-column-passed : goal.overflow_add-result-then-column-passed
overflow_add-result-then-column-passed c =
    let so = passed c.args.text.now c.args.from c.args.to c.place-line.result.0 c.place-line.result.1 c.requires.stands c.requires.ahead c.requires.within c.place-line.ensures.line c.place-line.ensures.column in
    omega (arith, so.few, so.is_size, c.requires.stands.is_column, c.ranges.to.fits, c.requires.ahead)

pub returns-then-column-passed-clause-stands : goal.returns-then-column-passed-clause-stands
returns-then-column-passed-clause-stands c =
    let so = passed c.args.text.now c.args.from c.args.to c.place-line.result.0 c.place-line.result.1 c.requires.stands c.requires.ahead c.requires.within c.place-line.ensures.line c.place-line.ensures.column in
    record { within = c.requires.within; is_line = omega (arith, so.is_line); is_column = so.on_one_line (omega (arith, c.if-column-passed.true)) }

pub returns-else-column-passed-clause-stands : goal.returns-else-column-passed-clause-stands
returns-else-column-passed-clause-stands c =
    let so = passed c.args.text.now c.args.from c.args.to c.place-line.result.0 c.place-line.result.1 c.requires.stands c.requires.ahead c.requires.within c.place-line.ensures.line c.place-line.ensures.column in
    record { within = c.requires.within; is_line = omega (arith, so.is_line); is_column = so.after_end (omega (arith, c.if-column-passed.false)) }
