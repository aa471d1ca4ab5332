-- The items, entries and contents before the index are counted, and the lengths that are noted in them listed. Each call goes to a part of the message.
use Rattle.std.proofs.Common.{◌≡◌, ◌+◌, ◌*◌, ◌++◌, length, take, flat_map}
use Rattle.pg_schema.specs.Parts.{shape_of}
use Rattle.pg_dyn.specs.message.Weights.{weight}
use Rattle.pg_dyn.specs.encoding.Lending.{bare_leaf}
use Rattle.pg_dyn.specs.encoding.Written.{capped, entry_record, item_bytes, item_lengths}
use Rattle.pg_dyn.proofs.lemmas.encoding.EncodeSteps.{content_bytes}
use Rattle.pg_dyn.proofs.lemmas.encoding.LentWeights.{bare_weight, parts_weight, weights}
use Rattle.pg_dyn.proofs.lemmas.encoding.NotedLengths.{content_lengths}
use Rattle.pg_dyn.proofs.encoding.counting.+count.Given as goal

abbrev pub decreases-count_message : goal.decreases-count_message
decreases-count_message g l = 4 * weight (g.M.Lends.kept l.message.now)

abbrev pub decreases-count_content : goal.decreases-count_content
decreases-count_content g l = 4 * parts_weight (g.M.Lends.parts l.field.now.number l.content.now) + 3

abbrev pub decreases-count_entries : goal.decreases-count_entries
decreases-count_entries g l = 4 * weights (λ e. g.M.Lends.item (g.M.Lends.value_of e)) l.entries.now + 2

abbrev pub decreases-count_items : goal.decreases-count_items
decreases-count_items g l = 4 * weights g.M.Lends.item l.values.now + 2

abbrev pub decreases-count_item : goal.decreases-count_item
decreases-count_item g l = 4 * bare_weight (g.M.Lends.item l.value.now) + 1

abbrev pub invariant-count_items-loop-value : goal.invariant-count_items-loop-value
invariant-count_items-loop-value g l = record {
  total : l.total ≡ capped (length (flat_map (λ v. item_bytes (shape_of l.schema) l.fn.number l.fn.element (g.M.Lends.item v)) (take l.value-index l.fn.values)));
  inner : l.inner.items ≡ l.fn.inner.items ++ flat_map (λ v. item_lengths (shape_of l.schema) (g.M.Lends.item v)) (take l.value-index l.fn.values);
}

abbrev pub invariant-count_entries-loop-entry : goal.invariant-count_entries-loop-entry
invariant-count_entries-loop-entry g l = record {
  total : l.total ≡ capped (length (flat_map (λ e. entry_record (shape_of l.schema) l.fn.number l.fn.key l.fn.element (bare_leaf (g.M.Lends.item (g.M.Lends.key_of e))) (g.M.Lends.item (g.M.Lends.value_of e))) (take l.entry-index l.fn.entries)));
  inner : l.inner.items ≡ l.fn.inner.items ++ flat_map (λ e. item_lengths (shape_of l.schema) (g.M.Lends.item (g.M.Lends.value_of e))) (take l.entry-index l.fn.entries);
}

abbrev pub invariant-count_message-loop-number : goal.invariant-count_message-loop-number
invariant-count_message-loop-number g l = record {
  total : l.total ≡ capped (length (flat_map (content_bytes g.M.Lends.parts (shape_of l.schema) (g.M.Lends.kept l.fn.message)) (take l.number-index l.number-items)));
  inner : l.inner.items ≡ l.fn.inner.items ++ flat_map (content_lengths g.M.Lends.parts (shape_of l.schema) (g.M.Lends.kept l.fn.message)) (take l.number-index l.number-items);
}
