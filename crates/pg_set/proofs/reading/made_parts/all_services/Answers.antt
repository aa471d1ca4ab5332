use Rattle.std.proofs.lemmas.Result.{err_from_is_err_and}
use Rattle.pg_set.specs.inner.reading.OutlinedRows.{row}
use Rattle.pg_set.specs.inner.reading.Owners.{means_of}
use Rattle.pg_set.specs.stated.StatedServices.{service}
use Rattle.pg_set.specs.stated.Views.{service_view}
use Rattle.pg_set.proofs.lemmas.lists.Each.{made_more, made_none}
use Rattle.pg_set.proofs.reading.made_parts.all_services.Goals as goal

pub loop-one-preserved : goal.loop-one-preserved
loop-one-preserved c =
    rw c.in_ok-push.ensures.items (made_more (service (means_of c.args.names.now)) row service_view c.args.outlined.now c.loop-one.one-index c.one-item.result c.loop-one.services.items c.in_ok-made.made c.loop-one-test.true c.one-item.is
    c.loop-one.invariant c.in_ok-made.ensures.made)

pub returns-in_err-made-clause-refused : goal.returns-in_err-made-clause-refused
returns-in_err-made-clause-refused c =
    let p = err_from_is_err_and c.from_residual.result c.from_residual.ensures.1 in
    rw (p.1, p.2) (made_none (service (means_of c.args.names.now)) row _ c.args.outlined.now c.loop-one.one-index c.one-item.result c.loop-one-test.true c.one-item.is c.in_err-made.ensures.refused)
