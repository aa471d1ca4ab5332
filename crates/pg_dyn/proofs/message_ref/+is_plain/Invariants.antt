-- The items and contents before the index are plain. Each call goes to a part of the message.
use Rattle.std.proofs.Common.{◌+◌, ◌*◌, false, ℕ, take}
use Rattle.pg_dyn.specs.declared.message_ref.ValueRef.{ValueRef}
use denote.Param.Weighed.{most}
use Rattle.pg_dyn.specs.declared.message_ref.MessageRef.TheDeep.{deep-EntryRef, deep-ValueRef}
use Rattle.std.specs.List.{AllByRecursion}
use Rattle.pg_dyn.specs.declared.message_ref.ContentRef.{ContentRef}
use Rattle.pg_dyn.specs.declared.message_ref.EntryRef.{EntryRef}
use Rattle.pg_dyn.specs.message_ref.Borrowed.{ArePlain, item_seen}
use Rattle.pg_dyn.specs.message.KeptParts.{IsPlainItem}
use Rattle.pg_dyn.proofs.message_ref.+is_plain.Given as goal

abbrev pub decreases-ContentRef::are_plain : goal.decreases-ContentRef::are_plain
decreases-ContentRef::are_plain l = 8 * most (λ (v : ValueRef). deep-ValueRef v) l.values.now + 5

abbrev pub decreases-ContentRef::have_plain_values : goal.decreases-ContentRef::have_plain_values
decreases-ContentRef::have_plain_values l = 8 * most (λ (e : EntryRef). deep-EntryRef e) l.entries.now + 5

abbrev pub decreases-ContentRef::is_plain : goal.decreases-ContentRef::is_plain
decreases-ContentRef::is_plain l = 2 * goal.size-ContentRef::is_plain l

abbrev pub decreases-MessageRef::is_plain : goal.decreases-MessageRef::is_plain
decreases-MessageRef::is_plain l = 2 * goal.size-MessageRef::is_plain l

abbrev pub decreases-ValueRef::is_plain : goal.decreases-ValueRef::is_plain
decreases-ValueRef::is_plain l = 2 * goal.size-ValueRef::is_plain l

abbrev pub invariant-ContentRef::are_plain-loop-value : goal.invariant-ContentRef::are_plain-loop-value
invariant-ContentRef::are_plain-loop-value l = AllByRecursion (λ v. IsPlainItem (item_seen false v)) (take l.value-index l.values)

abbrev pub invariant-ContentRef::have_plain_values-loop-entry : goal.invariant-ContentRef::have_plain_values-loop-entry
invariant-ContentRef::have_plain_values-loop-entry l = AllByRecursion (λ (e : EntryRef). IsPlainItem (item_seen false e.value)) (take l.entry-index l.entries)

abbrev pub invariant-MessageRef::is_plain-loop-content : goal.invariant-MessageRef::is_plain-loop-content
invariant-MessageRef::is_plain-loop-content l = AllByRecursion (λ (f : ℕ × ContentRef). ArePlain f.1) (take l.content-index l.content-items)
