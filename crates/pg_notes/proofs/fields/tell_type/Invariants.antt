-- The fields before the index are told of.
use Rattle.std.proofs.Common.{◌≡◌, ◌++◌, flat_map, take}
use Rattle.pg_notes.specs.FieldNotes.{field_notes}
use Rattle.pg_notes.proofs.fields.tell_type.Given as goal

abbrev pub invariant-loop-field : goal.invariant-loop-field
invariant-loop-field l =
    l.told.items ≡ l.fn.told.items
    ++ flat_map (field_notes l.new.types l.new.message_type.now.fields.items l.new.message_type.now.reserved_numbers.items) (take l.field-index l.fields)
