use Rattle.std.proofs.Common.{◌≤◌, ◌<◌, ◌^◌, [], sym, subst, arith}
use Rattle.pg_wire.specs.Varint.{varint}
use Rattle.pg_wire.proofs.PublicLaws.{lengths_grow, varint_read_again}
use Rattle.pg_pairs.proofs.choices.cost.varint_bytes.Goals as goal

pub returns-clause-few : goal.returns-clause-few
returns-clause-few c =
    let fits = c.ranges.value.fits in
    let below : c.args.value < 2 ^ 64 = omega arith in
    subst (λ n. n ≤ 10) (sym c.varint_len.ensures) (lengths_grow.4 (varint c.args.value) (varint_read_again c.args.value [] below).2).1
