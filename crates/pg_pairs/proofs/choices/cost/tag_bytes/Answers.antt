use Rattle.std.proofs.Common.{◌≤◌, ◌<◌, ◌^◌, ◌+◌, ◌*◌, ℕ, [], length, sym, subst, arith}
use Rattle.pg_wire.specs.declared.record.WireType.TheVariants.{Varint}
use Rattle.pg_wire.specs.Records.{tag, wire_code}
use Rattle.pg_wire.specs.Varint.{varint}
use Rattle.pg_wire.proofs.PublicLaws.{lengths_grow, varint_read_again}
use Rattle.pg_pairs.proofs.choices.cost.tag_bytes.Goals as goal

few : (number : ℕ) → number < 2 ^ 29 → length (tag number Varint) ≤ 10
unfolding tag
few number small =
    let below : 8 * number + wire_code Varint < 2 ^ 64 = omega arith in
    (lengths_grow.4 (varint (8 * number + wire_code Varint)) (varint_read_again (8 * number + wire_code Varint) [] below).2).1

pub returns-clause-few : goal.returns-clause-few
returns-clause-few c = subst (λ n. n ≤ 10) (sym (c.tag_len.ensures Varint)) (few c.args.number c.requires)
