use Rattle.std.proofs.Common.{map, sym, subst, take}
use Rattle.pg_check.specs.parts.MadeParts.{States, nothing, with_files}
use Rattle.pg_check.specs.inner.Sources.{source}
use Rattle.pg_check.proofs.lemmas.parts.PartsLaws.{with_more}
use Rattle.pg_check.proofs.parts.made_parts.parts_of.Goals as goal

pub loop-file-preserved : goal.loop-file-preserved
loop-file-preserved c =
    subst (λ d. States d c.push_file.new.parts) (sym (with_more source nothing c.args.files.now c.loop-file.file-index c.file-item.result c.loop-file-test.true c.file-item.is))
    (c.in_ok-push_file.ensures (with_files nothing (map source (take c.loop-file.file-index c.args.files.now))) c.loop-file.invariant)
