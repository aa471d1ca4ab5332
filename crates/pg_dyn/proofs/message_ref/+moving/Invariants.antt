-- Of the items, entries and contents so far all have their copies. Each call goes to a part of the message.
use Rattle.std.proofs.Common.{◌+◌, ◌*◌, ◌≡◌, true, map}
use Rattle.std.specs.Vec.Iter.{into_iter_items}
use denote.Param.Weighed.{most}
use Rattle.pg_dyn.specs.declared.message_ref.ValueRef.{ValueRef}
use Rattle.pg_dyn.specs.declared.message_ref.MessageRef.TheDeep.{deep-ValueRef}
use Rattle.pg_dyn.specs.message_ref.Borrowed as borrowed
use Rattle.pg_dyn.specs.message.Seen.{item_seen}
use Rattle.pg_dyn.proofs.lemmas.message_ref.BorrowedParts.{AreCopies}
use Rattle.pg_dyn.proofs.lemmas.message.TakenApart.{IsTaken}
use Rattle.pg_dyn.proofs.message_ref.+moving.Given as goal

abbrev pub decreases-ContentRef::into_values : goal.decreases-ContentRef::into_values
decreases-ContentRef::into_values l = 8 * most (λ (v : ValueRef). deep-ValueRef v) l.values.items + 5

abbrev pub decreases-ContentRef::into_content : goal.decreases-ContentRef::into_content
decreases-ContentRef::into_content l = 2 * goal.size-ContentRef::into_content l

abbrev pub decreases-MessageRef::into_message : goal.decreases-MessageRef::into_message
decreases-MessageRef::into_message l = 2 * goal.size-MessageRef::into_message l

abbrev pub decreases-MessageRef::into_boxed : goal.decreases-MessageRef::into_boxed
decreases-MessageRef::into_boxed l = 2 * goal.size-MessageRef::into_boxed l + 1

abbrev pub decreases-ValueRef::into_value : goal.decreases-ValueRef::into_value
decreases-ValueRef::into_value l = 2 * goal.size-ValueRef::into_value l

abbrev pub invariant-ContentRef::into_values-loop-value : goal.invariant-ContentRef::into_values-loop-value
invariant-ContentRef::into_values-loop-value l =
    IsTaken l.fn.values.items l.yielded l.value-iterator × (map (item_seen true) l.owned.items ≡ map (borrowed.item_seen true) l.yielded)

abbrev pub invariant-MessageRef::into_message-loop-number : goal.invariant-MessageRef::into_message-loop-number
invariant-MessageRef::into_message-loop-number l =
    IsTaken (into_iter_items l.initial.number-iterator) l.yielded l.number-iterator × AreCopies l.yielded l.owned.items
