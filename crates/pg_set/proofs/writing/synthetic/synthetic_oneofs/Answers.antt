use Rattle.std.proofs.Common.{◌≡◌, ◌+◌, length, map, ap, sym, subst, ◌∙◌, arith}
use Rattle.std.proofs.lemmas.List.{length-map}
use Rattle.std.specs.String.{string_bytes}
use Rattle.pg_set.specs.inner.Lent.{lent}
use Rattle.pg_set.specs.inner.writing.MadeNames.{HasMade}
use Rattle.pg_set.specs.writing.Synthetic.{synthetic_name, synthetic_oneofs}
use Rattle.pg_set.proofs.lemmas.writing.SyntheticLaws.{length-onto, onto, onto-append, step_made}
use Rattle.pg_set.proofs.writing.synthetic.synthetic_oneofs.Goals as goal

pub loop-field-preserved : goal.loop-field-preserved
loop-field-preserved c =
    let names = map string_bytes c.args.names.now in
    let done = map string_bytes c.loop-field.made.items in
    let ns = onto done names in
    let same : length c.args.names.now + c.len.result ≡ length ns = omega (arith, length-onto done names, length-map c.args.names.now string_bytes, length-map c.loop-field.made.items string_bytes, c.len.ensures) in
    let name = c.in_ok-push_synthetic.ensures.name ns c.loop-field.invariant.taken same in
    record {
      made = step_made names done (map string_bytes c.push_synthetic.new.made.items) (synthetic_oneofs names (lent c.args.fields.now)) c.args.fields.now c.loop-field.field-index c.field-item.result c.loop-field-test.true c.field-item.is c.if-not-field.false name c.loop-field.invariant.made;
      taken = subst (λ x. HasMade x c.push_synthetic.new.taken) (sym (ap (λ ms. onto ms names) name ∙ onto-append done names (synthetic_name ns (string_bytes c.field-item.result.now.name)))) (c.in_ok-push_synthetic.ensures.taken ns c.loop-field.invariant.taken same);
    }
