-- The methods before the index are told of.
use Rattle.std.proofs.Common.{◌≡◌, ◌++◌, flat_map, take}
use Rattle.std.specs.List.{enumerate_from}
use Rattle.pg_notes.specs.ServiceNotes.{method_notes}
use Rattle.pg_notes.proofs.services.tell_service.Given as goal

abbrev pub invariant-loop-index : goal.invariant-loop-index
invariant-loop-index l =
    l.told.items ≡ l.fn.told.items
    ++ flat_map (λ at. method_notes l.new.schemas.old.now l.new.schemas.new.now l.new.services l.new.methods.now at.0 at.1) (take l.index (enumerate_from 0 l.methods))
