use Rattle.std.proofs.Common.{◌≡◌, Some, map, take}
use Rattle.pg_dyn.specs.message.Kept.{message_of}
use Rattle.pg_set.specs.inner.reading.Owners.{means_of, owner_of}
use Rattle.pg_set.specs.stated.StatedFields.{field}
use Rattle.pg_set.specs.stated.StatedNames.{each}
use Rattle.pg_set.specs.stated.Views.{field_view}
use Rattle.pg_set.proofs.reading.made_types.each_field.Given as goal

abbrev pub invariant-loop-message : goal.invariant-loop-message
invariant-loop-message l = each (field (means_of l.scope.names.now) (owner_of l.scope)) (map message_of (take l.message-index l.messages)) ≡ Some (map field_view l.fields.items)
