use Rattle.std.proofs.Common.{◌≡◌, ◌+◌, ◌*◌, ◌++◌, ap, ap₂, ◌∙◌, append_assoc}
use Rattle.pg_wire.specs.Varint.{varint}
use Rattle.pg_wire.specs.Records.{tag, length_before}
use Rattle.std.proofs.lemmas.Result.{on_ok_weaker}
use Rattle.pg_dyn.proofs.encoding.records.push_front.Goals as goal

pub returns : goal.returns
unfolding tag
returns c =
    let out = c.args.out.now.items in
    let value = ap₂ (λ n k. varint (8 * n + k)) c.from.ensures c.wire_code.ensures.code in
    let one : c.push_varint.new.out.items ≡ out ++ tag c.args.number c.args.wire_type = c.in_ok-push_varint.ensures.ok ∙ ap (λ xs. out ++ xs) value in
    record {
      ok = on_ok_weaker c.push_length.result
          (λ two bytes is. two bytes is ∙ ap (λ xs. xs ++ length_before c.args.wire_type bytes) one ∙ append_assoc out (tag c.args.number c.args.wire_type) (length_before c.args.wire_type bytes))
          c.push_length.ensures.ok;
    }
