-- The items, entries and contents before the index fit. Each call goes to a part of the message.
use Rattle.std.proofs.Common.{◌+◌, ◌*◌, take}
use Rattle.pg_dyn.specs.declared.message.Value.{Value}
use denote.Param.Weighed.{most}
use Rattle.pg_dyn.specs.declared.message.Message.TheDeep.{deep-Value}
use Rattle.pg_dyn.specs.declared.message.Message.TheShapes.{weighed-Content-Map-0-at-2}
use Rattle.std.specs.List.{AllByRecursion}
use Rattle.pg_schema.specs.Parts.{shape_of}
use Rattle.pg_dyn.specs.fitting.ContentFits.{EntryKept, ItemKept, HoldsContent}
use Rattle.pg_dyn.proofs.message.+fits.Given as goal

abbrev pub decreases-Content::are_items : goal.decreases-Content::are_items
decreases-Content::are_items l = 6 * most (λ (v : Value). deep-Value v) l.values.now + 3

abbrev pub decreases-Content::are_entries : goal.decreases-Content::are_entries
decreases-Content::are_entries l = 6 * most ((weighed-Content-Map-0-at-2).weight Value deep-Value) l.entries.now + 3

abbrev pub decreases-Content::fits : goal.decreases-Content::fits
decreases-Content::fits l = 2 * goal.size-Content::fits l

abbrev pub decreases-Message::is_one_of : goal.decreases-Message::is_one_of
decreases-Message::is_one_of l = 2 * goal.size-Message::is_one_of l

abbrev pub decreases-Value::fits : goal.decreases-Value::fits
decreases-Value::fits l = 2 * goal.size-Value::fits l

abbrev pub invariant-Content::are_items-loop-value : goal.invariant-Content::are_items-loop-value
invariant-Content::are_items-loop-value l = AllByRecursion (ItemKept (shape_of l.schema) l.element) (take l.value-index l.values)

abbrev pub invariant-Content::are_entries-loop-entry_key : goal.invariant-Content::are_entries-loop-entry_key
invariant-Content::are_entries-loop-entry_key l = AllByRecursion (EntryKept (shape_of l.schema) l.key l.element) (take l.entry_key-index l.entries)

abbrev pub invariant-Message::is_one_of-loop-number : goal.invariant-Message::is_one_of-loop-number
invariant-Message::is_one_of-loop-number l = AllByRecursion (HoldsContent (shape_of l.schema) l.self-inside.type_id) (take l.number-index l.number-items)
