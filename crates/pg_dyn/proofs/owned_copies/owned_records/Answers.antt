use Rattle.pg_dyn.proofs.lemmas.message_ref.BorrowedParts.{record_at}
use Rattle.pg_dyn.proofs.owned_copies.owned_records.Goals as goal

pub owned_record-requires : goal.owned_record-requires
owned_record-requires c = record_at c.args.records.now c.loop-found.found-index _ c.loop-found-test.true c.requires
