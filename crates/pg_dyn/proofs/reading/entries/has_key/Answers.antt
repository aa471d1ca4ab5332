-- Keys of one kind are told apart by their order.
use Rattle.pg_dyn.specs.declared.message_ref.EntryRef.{EntryRef}
use Rattle.pg_dyn.specs.message_ref.BorrowedItems.{key_of}
use Rattle.pg_dyn.specs.message.KeyOrder.{IsOfKind}
use Rattle.pg_dyn.proofs.lemmas.fitting.FitsSteps.{fact_at}
use Rattle.pg_dyn.proofs.lemmas.reading.entries.LastOfKeys.{same_kind}
use Rattle.pg_dyn.proofs.reading.entries.has_key.Goals as goal

pub order-requires : goal.order-requires
order-requires c =
    let a = c.requires in
    same_kind a.0 _ _ a.1
    (fact_at (λ (e : EntryRef). IsOfKind a.0 (key_of e)) c.args.entries.now c.args.place c.index-entries-place.result c.if-place-entries.true a.2)
