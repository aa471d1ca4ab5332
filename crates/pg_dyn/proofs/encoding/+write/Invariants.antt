-- The items, entries and contents before the index are written, and the lengths of those from it on are left. Each call goes to a part of
-- the message.
use Rattle.std.proofs.Common.{◌+◌, ◌*◌}
use Rattle.pg_schema.specs.Parts.{shape_of}
use Rattle.pg_dyn.specs.message.Weights.{weight}
use Rattle.pg_dyn.specs.encoding.Lending.{bare_leaf}
use Rattle.pg_dyn.specs.encoding.Written.{entry_record, item_bytes, item_lengths}
use Rattle.pg_dyn.proofs.lemmas.encoding.EncodeSteps.{IsOnTheWay, content_bytes}
use Rattle.pg_dyn.proofs.lemmas.encoding.LentWeights.{bare_weight, parts_weight, weights}
use Rattle.pg_dyn.proofs.lemmas.encoding.NotedLengths.{content_lengths}
use Rattle.pg_dyn.proofs.encoding.+write.Given as goal

abbrev pub decreases-write_message : goal.decreases-write_message
decreases-write_message g l = 6 * weight (g.M.Lends.kept l.message.now)

abbrev pub decreases-write_content : goal.decreases-write_content
decreases-write_content g l = 6 * parts_weight (g.M.Lends.parts l.field.now.number l.content.now) + 5

abbrev pub decreases-write_entries : goal.decreases-write_entries
decreases-write_entries g l = 6 * weights (λ e. g.M.Lends.item (g.M.Lends.value_of e)) l.entries.now + 4

abbrev pub decreases-write_items : goal.decreases-write_items
decreases-write_items g l = 6 * weights g.M.Lends.item l.values.now + 4

abbrev pub decreases-write_entry : goal.decreases-write_entry
decreases-write_entry g l = 6 * bare_weight (g.M.Lends.item (g.M.Lends.value_of l.entry.now)) + 3

abbrev pub decreases-write_item : goal.decreases-write_item
decreases-write_item g l = 6 * bare_weight (g.M.Lends.item l.value.now) + 2

abbrev pub decreases-write_child : goal.decreases-write_child
decreases-write_child g l = 6 * weight (g.M.Lends.kept l.child.now) + 1

abbrev pub invariant-write_items-loop-value : goal.invariant-write_items-loop-value
invariant-write_items-loop-value g l =
    IsOnTheWay (λ v. item_bytes (shape_of l.schema) l.fn.number l.fn.element (g.M.Lends.item v)) (λ v. item_lengths (shape_of l.schema) (g.M.Lends.item v)) l.fn.values l.value-index l.fn.out.items l.out.items l.fn.lengths l.left

abbrev pub invariant-write_entries-loop-entry : goal.invariant-write_entries-loop-entry
invariant-write_entries-loop-entry g l =
    IsOnTheWay (λ e. entry_record (shape_of l.schema) l.fn.number l.fn.key l.fn.element (bare_leaf (g.M.Lends.item (g.M.Lends.key_of e))) (g.M.Lends.item (g.M.Lends.value_of e))) (λ e. item_lengths (shape_of l.schema) (g.M.Lends.item (g.M.Lends.value_of e))) l.fn.entries l.entry-index l.fn.out.items l.out.items l.fn.lengths l.left

abbrev pub invariant-write_message-loop-number : goal.invariant-write_message-loop-number
invariant-write_message-loop-number g l =
    IsOnTheWay (content_bytes g.M.Lends.parts (shape_of l.schema) (g.M.Lends.kept l.fn.message)) (content_lengths g.M.Lends.parts (shape_of l.schema) (g.M.Lends.kept l.fn.message)) l.number-items l.number-index l.fn.out.items l.out.items l.fn.lengths l.left
