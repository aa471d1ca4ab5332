use Rattle.std.proofs.Common.{◌≡◌, map, take, true}
use Rattle.std.specs.List.{list_all}
use Rattle.pg_dyn.specs.message.Kept.{message_of}
use Rattle.pg_set.specs.stated.StatedFields.{is_named_once}
use Rattle.pg_set.specs.stated.Views.{field_view}
use Rattle.pg_set.proofs.reading.named_entries.are_named_once.Given as goal

abbrev pub invariant-loop-entry : goal.invariant-loop-entry
invariant-loop-entry l = list_all (is_named_once (map field_view l.fields)) (map message_of (take l.entry-index l.entries)) ≡ true
