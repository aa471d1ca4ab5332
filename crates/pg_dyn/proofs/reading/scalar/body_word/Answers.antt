use Rattle.std.proofs.Common.{subst}
use Rattle.pg_wire.specs.declared.record.WireType.{WireType}
use Rattle.pg_dyn.specs.word.Coding.{word_in, HasShape}
use Rattle.pg_dyn.proofs.lemmas.laws.Bodies.{word_read, word_not_refused}
use Rattle.pg_dyn.proofs.reading.scalar.body_word.Goals as goal

pub returns-in-Ok-clause-word : goal.returns-in-Ok-clause-word
unfolding word_in
returns-in-Ok-clause-word c =
    let h = subst (λ (w : WireType). HasShape w c.args.body.now) c.in-Varint.is c.requires in
    rw c.in-Varint.is (word_read c.args.body.now c.in-Ok.word c.in-Ok.field-0-1 h c.in-Ok.ensures.value)

pub returns-in-Err-clause-word : goal.returns-in-Err-clause-word
returns-in-Err-clause-word c =
    let h = subst (λ (w : WireType). HasShape w c.args.body.now) c.in-Varint.is c.requires in
    absurd (word_not_refused c.args.body.now c.in-Err.field-0 h c.in-Err.ensures.value)
