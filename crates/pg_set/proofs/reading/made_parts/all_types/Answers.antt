use Rattle.std.proofs.lemmas.Result.{err_from_is_err_and}
use Rattle.pg_set.specs.inner.reading.OutlinedPlaces.{placed_type}
use Rattle.pg_set.specs.inner.reading.Owners.{means_of}
use Rattle.pg_set.specs.stated.StatedTypes.{message_type}
use Rattle.pg_set.specs.stated.Views.{type_view}
use Rattle.pg_set.proofs.lemmas.lists.Each.{made_more, made_none}
use Rattle.pg_set.proofs.reading.made_parts.all_types.Goals as goal

pub loop-one-preserved : goal.loop-one-preserved
loop-one-preserved c =
    rw c.in_ok-push.ensures.items (made_more (message_type (means_of c.args.names.now)) placed_type type_view c.args.outlined.now c.loop-one.one-index c.one-item.result c.loop-one.types.items c.in_ok-made.made c.loop-one-test.true c.one-item.is
    c.loop-one.invariant c.in_ok-made.ensures.made)

pub returns-in_err-made-clause-refused : goal.returns-in_err-made-clause-refused
returns-in_err-made-clause-refused c =
    let p = err_from_is_err_and c.from_residual.result c.from_residual.ensures.1 in
    rw (p.1, p.2) (made_none (message_type (means_of c.args.names.now)) placed_type _ c.args.outlined.now c.loop-one.one-index c.one-item.result c.loop-one-test.true c.one-item.is c.in_err-made.ensures.refused)
