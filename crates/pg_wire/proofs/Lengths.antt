-- How long records are.
use Rattle.std.proofs.Common.{◌≡◌, ℕ, ◌+◌, ◌*◌, ◌≤◌, List, ◌++◌, length, ap, ◌∙◌, arith, length-append}
use Rattle.pg_wire.specs.declared.record.WireType.{WireType}
use Rattle.pg_wire.specs.declared.record.WireType.TheVariants.{Len}
use Rattle.pg_wire.specs.Varint.{varint}
use Rattle.pg_wire.specs.Records.{tag, length_before, written}
use Rattle.pg_wire.proofs.Spelling.{length-tag}
use Rattle.pg_wire.proofs.Varints.{length-varint_grows}

pub length-written : (number : ℕ) (wire : WireType) (body : List ℕ) → length (written number wire body).bytes ≡ length (varint (8 * number)) + length (length_before wire body) + length body
unfolding written
length-written number wire body =
    length-append (tag number wire ++ length_before wire body) body
    ∙ ap (λ n. n + length body) (length-append (tag number wire) (length_before wire body) ∙ ap (λ n. n + length (length_before wire body)) (length-tag number wire))

-- a LEN record's length rises with its body's
pub length-written_grows : (number : ℕ) (a b : List ℕ) → length a ≤ length b → length (written number Len a).bytes ≤ length (written number Len b).bytes
length-written_grows number a b h =
    omega (arith, length-written number Len a, length-written number Len b, length-varint_grows (length a) (length b) h)
