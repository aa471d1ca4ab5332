use Rattle.std.proofs.Common.{◌∙◌, ap}
use Rattle.std.specs.List.{list_all}
use Rattle.pg_schema.specs.inner.Steps.{is_ascii}
use Rattle.pg_schema.proofs.lemmas.rules.PackageLemmas.{file_ascii}
use Rattle.pg_schema.proofs.rules.packages.are_free.Goals as goal

pub is_free-requires : goal.is_free-requires
is_free-requires c =
    ap (list_all is_ascii) c.as_bytes.ensures.value ∙ file_ascii c.args.files.now c.loop-file.file-index c.file-item.result c.requires c.loop-file-test.true c.file-item.is
