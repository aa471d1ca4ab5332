use Rattle.std.proofs.Common.{◌++◌, ap, sym, ◌∙◌}
use Rattle.pg_set.proofs.lemmas.writing.Records.{short_varint}
use Rattle.pg_set.proofs.writing.records.push_varint.Goals as goal

pub returns-then-value-lt128 : goal.returns-then-value-lt128
returns-then-value-lt128 c =
    c.in_ok-push.ensures.items ∙ ap (λ bs. c.args.out.now.items ++ bs) (sym (short_varint c.args.value c.if-value-lt128.true))
