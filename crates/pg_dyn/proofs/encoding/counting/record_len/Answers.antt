use Rattle.std.proofs.Common.{◌≡◌, length, arith, ⊎_elim}
use Rattle.pg_dyn.proofs.lemmas.encoding.EncodeSteps.{record_size, small_or_big}
use Rattle.pg_dyn.proofs.encoding.counting.record_len.Goals as goal

pub returns : goal.returns
returns c = λ bytes is.
    let size = record_size c.args.number c.args.wire_type bytes in
    let t = c.tag_len.ensures c.args.wire_type in
    ⊎_elim
    (λ small.
    let len_is : length bytes ≡ c.args.len = omega (arith, is, small) in
    let l = c.length_len.ensures bytes len_is in
    omega (arith, size, t, l, is))
    (λ big. omega (arith, size, t, is, big)) (small_or_big (length bytes) 2147483647)
