-- The services before the index are told of.
use Rattle.std.proofs.Common.{◌≡◌, ◌++◌, flat_map, take}
use Rattle.std.specs.List.{enumerate_from}
use Rattle.pg_notes.specs.Named.{place_of}
use Rattle.pg_notes.specs.Notes.{service_beside, service_name}
use Rattle.pg_notes.proofs.telling.tell_services.Given as goal

abbrev pub invariant-loop-index : goal.invariant-loop-index
invariant-loop-index l =
    l.told.items ≡ l.fn.told.items
    ++ flat_map (λ at. service_beside l.old l.new at.0 at.1 (place_of service_name l.new.services.items (service_name at.1))) (take l.index (enumerate_from 0 l.old_services))
