use Rattle.std.proofs.Common.{◌≡◌, Some, map, take}
use Rattle.pg_dyn.specs.message.Kept.{message_of}
use Rattle.pg_set.specs.inner.reading.Owners.{means_of}
use Rattle.pg_set.specs.stated.StatedNames.{each}
use Rattle.pg_set.specs.stated.StatedServices.{method}
use Rattle.pg_set.specs.stated.Views.{method_view}
use Rattle.pg_set.proofs.reading.made_files.methods.Given as goal

abbrev pub invariant-loop-message : goal.invariant-loop-message
invariant-loop-message l = each (method (means_of l.names)) (map message_of (take l.message-index l.messages)) ≡ Some (map method_view l.methods.items)
