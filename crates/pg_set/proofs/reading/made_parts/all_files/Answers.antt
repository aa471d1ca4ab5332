use Rattle.std.proofs.lemmas.Result.{err_from_is_err_and}
use Rattle.pg_set.specs.inner.reading.OutlinedPlaces.{placed_file}
use Rattle.pg_set.specs.stated.StatedFiles.{file}
use Rattle.pg_set.specs.stated.Views.{file_view}
use Rattle.pg_set.proofs.lemmas.lists.Each.{made_more, made_none}
use Rattle.pg_set.proofs.reading.made_parts.all_files.Goals as goal

pub loop-one-preserved : goal.loop-one-preserved
loop-one-preserved c =
    rw c.in_ok-push.ensures.items (made_more (file c.args.skips) placed_file file_view c.args.outlined.now c.loop-one.one-index c.one-item.result c.loop-one.files.items c.in_ok-made.made c.loop-one-test.true c.one-item.is
    c.loop-one.invariant c.in_ok-made.ensures.made)

pub returns-in_err-made-clause-refused : goal.returns-in_err-made-clause-refused
returns-in_err-made-clause-refused c =
    let p = err_from_is_err_and c.from_residual.result c.from_residual.ensures.1 in
    rw (p.1, p.2) (made_none (file c.args.skips) placed_file _ c.args.outlined.now c.loop-one.one-index c.one-item.result c.loop-one-test.true c.one-item.is c.in_err-made.ensures.refused)
