-- The items, entries and contents so far have their copies. Each call goes to a part of the message.
use Rattle.std.proofs.Common.{◌+◌, ◌*◌, ◌≡◌, true, map, take}
use Rattle.pg_dyn.specs.declared.message_ref.EntryRef.{EntryRef}
use Rattle.pg_dyn.specs.declared.message_ref.ValueRef.{ValueRef}
use denote.Param.Weighed.{most}
use Rattle.pg_dyn.specs.declared.message_ref.MessageRef.TheDeep.{deep-EntryRef, deep-ValueRef}
use Rattle.pg_dyn.specs.message_ref.Borrowed as borrowed
use Rattle.pg_dyn.specs.inner.Copies.{AreEntryCopies}
use Rattle.pg_dyn.specs.message.Seen.{item_seen}
use Rattle.pg_dyn.proofs.lemmas.message_ref.BorrowedParts.{AreCopies}
use Rattle.pg_dyn.proofs.message_ref.+owning.Given as goal

abbrev pub decreases-ContentRef::to_values : goal.decreases-ContentRef::to_values
decreases-ContentRef::to_values l = 8 * most (λ (v : ValueRef). deep-ValueRef v) l.values.now + 5

abbrev pub decreases-ContentRef::to_entries : goal.decreases-ContentRef::to_entries
decreases-ContentRef::to_entries l = 8 * most (λ (e : EntryRef). deep-EntryRef e) l.entries.now + 5

abbrev pub decreases-ContentRef::to_content : goal.decreases-ContentRef::to_content
decreases-ContentRef::to_content l = 2 * goal.size-ContentRef::to_content l

abbrev pub decreases-EntryRef::to_entry : goal.decreases-EntryRef::to_entry
decreases-EntryRef::to_entry l = 2 * goal.size-EntryRef::to_entry l

abbrev pub decreases-MessageRef::to_message : goal.decreases-MessageRef::to_message
decreases-MessageRef::to_message l = 2 * goal.size-MessageRef::to_message l

abbrev pub decreases-MessageRef::to_boxed : goal.decreases-MessageRef::to_boxed
decreases-MessageRef::to_boxed l = 2 * goal.size-MessageRef::to_boxed l + 1

abbrev pub decreases-ValueRef::to_value : goal.decreases-ValueRef::to_value
decreases-ValueRef::to_value l = 2 * goal.size-ValueRef::to_value l

abbrev pub invariant-ContentRef::to_values-loop-value : goal.invariant-ContentRef::to_values-loop-value
invariant-ContentRef::to_values-loop-value l = map (item_seen true) l.owned.items ≡ map (borrowed.item_seen true) (take l.value-index l.values)

abbrev pub invariant-ContentRef::to_entries-loop-entry : goal.invariant-ContentRef::to_entries-loop-entry
invariant-ContentRef::to_entries-loop-entry l = AreEntryCopies (take l.entry-index l.entries) l.owned.items

abbrev pub invariant-MessageRef::to_message-loop-number : goal.invariant-MessageRef::to_message-loop-number
invariant-MessageRef::to_message-loop-number l = AreCopies (take l.number-index l.number-items) l.fields.items
