use Rattle.std.proofs.Common.{◌≡◌, Some, inl, inr, sym, ◌∙◌, ap}
use Rattle.pg_cert.proofs.WordsRead.{same_bytes, other_word}
use Rattle.pg_cert.proofs.WitnessRead.{none_said, bytes_said}
use Rattle.pg_cert.proofs.reading.witness_of.Goals as goal

pub returns-then-eq : goal.returns-then-eq
returns-then-eq c =
    λ witness h is. sym (none_said witness h (sym is ∙ same_bytes c.args.word.now c.as_slice.result.now (sym c.eq.ensures ∙ c.if-eq.true) ∙ c.as_slice.ensures))

pub returns-in-Ok : goal.returns-in-Ok
returns-in-Ok c =
    λ witness h is.
    let said = bytes_said witness c.args.word.now h is (other_word c.args.word.now c.as_slice.result.now c.as_slice.ensures (sym c.eq.ensures ∙ c.if-eq.false)) in
    let same : c.in-Ok.bytes.items ≡ said.0 = let there = said.2 in let found = c.in-Ok.ensures.ok in cc in
    ap Some same ∙ sym said.1

pub returns-in-Err : goal.returns-in-Err
returns-in-Err c =
    λ witness h is.
    let said = bytes_said witness c.args.word.now h is (other_word c.args.word.now c.as_slice.result.now c.as_slice.ensures (sym c.eq.ensures ∙ c.if-eq.false)) in
    elim c.in-Err.ensures.err [ inl memory ↦ c.hex_fault.ensures.1 memory | inr fault ↦ absurd (let there = said.2 in cc) ]
