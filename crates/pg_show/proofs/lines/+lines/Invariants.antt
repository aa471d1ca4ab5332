-- Each call goes to a part of the message. The items, entries and contents before the index have their lines.
use Rattle.std.proofs.Common.{◌≡◌, ◌+◌, ◌-◌, ◌*◌, ◌++◌, flat_map, None, string_bytes, take}
use denote.Param.Weighed.{most}
use Rattle.pg_dyn.specs.message.Weights.{weight}
use Rattle.pg_dyn.specs.word.NumberLists.{numbers_in}
use Rattle.pg_show.specs.Contents.{content_lines, entry_lines, value_lines}
use Rattle.pg_show.proofs.Weights.{content_weight, entry_weight, value_weight}
use Rattle.pg_show.proofs.lines.+lines.Given as goal

abbrev pub decreases-push_value : goal.decreases-push_value
decreases-push_value l = 4 * value_weight l.value.now

abbrev pub decreases-push_list : goal.decreases-push_list
decreases-push_list l = 4 * most value_weight l.values.now + 1

abbrev pub decreases-push_numbers : goal.decreases-push_numbers
decreases-push_numbers l = 4 * most value_weight (numbers_in l.numbers.now) + 1

abbrev pub decreases-push_entries : goal.decreases-push_entries
decreases-push_entries l = 4 * most entry_weight l.entries.now + 1

abbrev pub decreases-push_content : goal.decreases-push_content
decreases-push_content l = 4 * content_weight l.content.now + 2

abbrev pub decreases-push_message : goal.decreases-push_message
decreases-push_message l = 4 * weight l.message.now - 1

abbrev pub invariant-push_list-loop-value : goal.invariant-push_list-loop-value
invariant-push_list-loop-value l =
    string_bytes l.text ≡ string_bytes l.fn.text ++ flat_map (value_lines l.row.schema.now l.row.indent.now l.row.number l.row.name.now l.row.element None) (take l.value-index l.values)

abbrev pub invariant-push_numbers-loop-at : goal.invariant-push_numbers-loop-at
invariant-push_numbers-loop-at l =
    string_bytes l.text ≡ string_bytes l.fn.text ++ flat_map (value_lines l.row.schema.now l.row.indent.now l.row.number l.row.name.now l.row.element None) (take l.at (numbers_in l.numbers))

abbrev pub invariant-push_entries-loop-entry : goal.invariant-push_entries-loop-entry
invariant-push_entries-loop-entry l =
    string_bytes l.text ≡ string_bytes l.fn.text ++ flat_map (entry_lines l.row.schema.now l.row.indent.now l.row.number l.row.name.now l.row.element) (take l.entry-index l.entries)

abbrev pub invariant-push_message-loop-number : goal.invariant-push_message-loop-number
invariant-push_message-loop-number l =
    string_bytes l.text ≡ string_bytes l.fn.text ++ flat_map (content_lines l.level.schema.now l.level.type_id l.level.indent.now) (take l.number-index l.number-items)
