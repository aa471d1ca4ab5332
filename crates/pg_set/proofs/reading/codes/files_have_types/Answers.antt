use Rattle.std.proofs.Common.{sym, ◌∙◌}
use Rattle.pg_set.specs.stated.Codes.{file_has_types}
use Rattle.pg_set.proofs.lemmas.order.SetLaws.{all_lost}
use Rattle.pg_set.proofs.reading.codes.files_have_types.Goals as goal

pub returns-then-not-taken : goal.returns-then-not-taken
returns-then-not-taken c =
    sym (all_lost file_has_types c.args.files.now c.loop-file.file-index c.file-item.result c.loop-file-test.true c.file-item.is (sym c.in_ok-taken.ensures ∙ c.if-not-taken.true))
