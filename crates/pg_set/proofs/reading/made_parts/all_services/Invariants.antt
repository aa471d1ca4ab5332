use Rattle.std.proofs.Common.{◌≡◌, Some, map, take}
use Rattle.pg_set.specs.inner.reading.OutlinedRows.{row}
use Rattle.pg_set.specs.inner.reading.Owners.{means_of}
use Rattle.pg_set.specs.stated.StatedServices.{service}
use Rattle.pg_set.specs.stated.StatedNames.{each}
use Rattle.pg_set.specs.stated.Views.{service_view}
use Rattle.pg_set.proofs.reading.made_parts.all_services.Given as goal

abbrev pub invariant-loop-one : goal.invariant-loop-one
invariant-loop-one l = each (service (means_of l.names)) (map row (take l.one-index l.outlined)) ≡ Some (map service_view l.services.items)
