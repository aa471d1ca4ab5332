use Rattle.std.proofs.Common.{sym, ◌∙◌}
use Rattle.pg_set.specs.stated.FileMessages.{is_skipped}
use Rattle.pg_set.proofs.lemmas.order.SetLaws.{any_found}
use Rattle.pg_set.proofs.reading.set_files.skips.Goals as goal

pub returns-then-skipped : goal.returns-then-skipped
returns-then-skipped c =
    sym (any_found is_skipped c.args.files.now c.loop-file.file-index c.file-item.result c.loop-file-test.true c.file-item.is (sym c.is_skipped-skipped.ensures ∙ c.if-skipped.true))
