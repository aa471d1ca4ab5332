use Rattle.std.proofs.Common.{Some, ◌∙◌}
use Rattle.std.proofs.lemmas.Map.Text.{btree_map_updates_text}
use Rattle.std.specs.String.{string_bytes}
use Rattle.pg_set.proofs.lemmas.reading.OwnerLaws.{named_more}
use Rattle.pg_set.proofs.reading.made_types.entries.Goals as goal

pub loop-message-preserved : goal.loop-message-preserved
loop-message-preserved c =
    let key = string_bytes c.in_ok-name.name in
    named_more c.loop-message.entries c.insert.new.self key c.args.messages.now c.loop-message.message-index c.message-item.result c.loop-message-test.true c.message-item.is (c.in_ok-name.ensures.ok ∙ c.text.ensures)
    (btree_map_updates_text key c.loop-message.entries c.insert.new.self (Some c.message-item.result) (rw c.reborrow.ensures at c.in_ok-insert.ensures.updates)) c.loop-message.invariant
