use Rattle.std.proofs.lemmas.Result.{err_from_is_err_and}
use Rattle.pg_dyn.specs.message.Kept.{message_of}
use Rattle.pg_set.specs.inner.reading.Owners.{means_of}
use Rattle.pg_set.specs.stated.StatedServices.{method}
use Rattle.pg_set.specs.stated.Views.{method_view}
use Rattle.pg_set.proofs.lemmas.lists.Each.{made_more, made_none}
use Rattle.pg_set.proofs.reading.made_files.methods.Goals as goal

pub loop-message-preserved : goal.loop-message-preserved
loop-message-preserved c =
    rw c.in_ok-push.ensures.items (made_more (method (means_of c.args.names.now)) message_of method_view c.args.messages.now c.loop-message.message-index c.message-item.result c.loop-message.methods.items c.in_ok-made.made
    c.loop-message-test.true c.message-item.is c.loop-message.invariant c.in_ok-made.ensures.made)

pub returns-in_err-made-clause-refused : goal.returns-in_err-made-clause-refused
returns-in_err-made-clause-refused c =
    let p = err_from_is_err_and c.from_residual.result c.from_residual.ensures.1 in
    rw (p.1, p.2) (made_none (method (means_of c.args.names.now)) message_of _ c.args.messages.now c.loop-message.message-index c.message-item.result c.loop-message-test.true c.message-item.is c.in_err-made.ensures.refused)
