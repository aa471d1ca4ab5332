-- The word is at the front, or isn't.
use Rattle.std.proofs.Common.{◌≡◌, take, IfOk, ap, sym, subst, arith}
use Rattle.pg_wire.specs.declared.record.WireType.{WireType}
use Rattle.pg_dyn.specs.word.Coding.{element_at, word_in}
use Rattle.pg_dyn.specs.word.WordOf.{HasBits}
use Rattle.pg_dyn.proofs.lemmas.reading.PackedRows.{IsOne, varint_is_one, varint_is_word, if_there, if_short}
use Rattle.pg_dyn.proofs.reading.packed.front_word.Goals as goal

pub returns-in-Varint-clause-ok : goal.returns-in-Varint-clause-ok
returns-in-Varint-clause-ok c =
    subst (λ (w : WireType). IfOk c.read_varint.result (λ read. IsOne w c.args.bytes.now read.1)) (sym c.in-Varint.is)
    (varint_is_one c.args.bytes.now c.read_varint.result c.read_varint.ensures.value)

pub returns-in-Varint-clause-word : goal.returns-in-Varint-clause-word
returns-in-Varint-clause-word c =
    subst (λ (w : WireType). IfOk c.read_varint.result (λ read. (word_in w (take read.1 c.args.bytes.now) ≡ read.0) × HasBits w read.0)) (sym c.in-Varint.is)
    (varint_is_word c.args.bytes.now c.read_varint.result c.read_varint.ensures.value)

pub returns-in-Some-clause-ok : goal.returns-in-Some-clause-ok
returns-in-Some-clause-ok c =
    if_there c.args.wire_type 8 c.args.bytes.now (omega arith) (ap (λ (w : WireType). element_at w c.args.bytes.now) c.in-I64.is) (omega (arith, c.in-Some.ensures.cases.2))

pub returns-in-None-clause-err : goal.returns-in-None-clause-err
returns-in-None-clause-err c = if_short c.args.wire_type 8 c.args.bytes.now (ap (λ (w : WireType). element_at w c.args.bytes.now) c.in-I64.is) c.in-None.ensures.cases

pub returns-in-Some-split_first_chunk-clause-ok : goal.returns-in-Some-split_first_chunk-clause-ok
returns-in-Some-split_first_chunk-clause-ok c =
    if_there c.args.wire_type 4 c.args.bytes.now (omega arith) (ap (λ (w : WireType). element_at w c.args.bytes.now) c.in-I32.is)
    (omega (arith, c.in-Some-split_first_chunk.ensures.cases.2))

pub returns-in-None-split_first_chunk-clause-err : goal.returns-in-None-split_first_chunk-clause-err
returns-in-None-split_first_chunk-clause-err c =
    if_short c.args.wire_type 4 c.args.bytes.now (ap (λ (w : WireType). element_at w c.args.bytes.now) c.in-I32.is) c.in-None-split_first_chunk.ensures.cases
