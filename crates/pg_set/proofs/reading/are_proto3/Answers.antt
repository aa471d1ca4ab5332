use Rattle.std.proofs.Common.{sym, ◌∙◌}
use Rattle.pg_set.specs.stated.FileMessages.{is_proto3}
use Rattle.pg_set.proofs.lemmas.order.SetLaws.{all_lost}
use Rattle.pg_set.proofs.reading.are_proto3.Goals as goal

pub returns-then-not-proto3 : goal.returns-then-not-proto3
returns-then-not-proto3 c =
    sym (all_lost is_proto3 c.args.files.now c.loop-file.file-index c.file-item.result c.loop-file-test.true c.file-item.is (sym c.is_proto3-proto3.ensures ∙ c.if-not-proto3.true))
