use Rattle.std.proofs.Common.{◌≡◌, subst}
use Rattle.std.specs.Prelude.{OnOk}
use Rattle.pg_set.proofs.lemmas.writing.Records.{word_added}
use Rattle.pg_set.proofs.writing.records.push_word.Goals as goal

pub returns : goal.returns
returns c =
    subst (λ bs. OnOk c.push_varint-2.result (c.push_varint-2.new.out.items ≡ bs))
    (word_added c.args.out.now.items c.push_varint.new.out.items c.args.number c.from.result c.args.word c.from.ensures c.in_ok-push_varint.ensures) c.push_varint-2.ensures
