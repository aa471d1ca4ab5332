use Rattle.std.proofs.Common.{◌≡◌, Some, map, take}
use Rattle.pg_set.specs.inner.reading.OutlinedPlaces.{placed_type}
use Rattle.pg_set.specs.inner.reading.Owners.{means_of}
use Rattle.pg_set.specs.stated.StatedTypes.{message_type}
use Rattle.pg_set.specs.stated.StatedNames.{each}
use Rattle.pg_set.specs.stated.Views.{type_view}
use Rattle.pg_set.proofs.reading.made_parts.all_types.Given as goal

abbrev pub invariant-loop-one : goal.invariant-loop-one
invariant-loop-one l = each (message_type (means_of l.names)) (map placed_type (take l.one-index l.outlined)) ≡ Some (map type_view l.types.items)
