-- A record is its front and its body.
use Rattle.std.proofs.Common.{◌++◌, ap, sym, ◌∙◌, append_assoc}
use Rattle.pg_wire.specs.Records.{tag, length_before}
use Rattle.pg_dyn.specs.word.Coding.{body, form_wire, scalar_form}
use Rattle.pg_dyn.specs.encoding.Lending.{leaf_lent}
use Rattle.pg_dyn.proofs.lemmas.encoding.EncodeSteps.{record_is}
use Rattle.std.proofs.lemmas.Result.{on_ok_weaker}
use Rattle.pg_dyn.proofs.encoding.records.push_record.Goals as goal

pub returns : goal.returns
returns c =
    let w = form_wire (scalar_form c.args.scalar) in
    let b = body (scalar_form c.args.scalar) (leaf_lent c.args.leaf) in
    let out = c.args.out.now.items in
    let front = c.in_ok-push_front.ensures.ok b (sym c.body_len.ensures) ∙ ap (λ x. out ++ (tag c.args.number x ++ length_before x b)) c.wire_type_of.ensures in
    record {
      ok = on_ok_weaker c.push_body.result
          (λ three. three ∙ ap (λ xs. xs ++ b) front ∙ append_assoc out (tag c.args.number w ++ length_before w b) b ∙ ap (λ xs. out ++ xs) (sym (record_is c.args.number w b)))
          c.push_body.ensures.ok;
    }
