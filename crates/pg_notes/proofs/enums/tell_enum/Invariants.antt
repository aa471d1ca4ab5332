-- The values before the index are told of.
use Rattle.std.proofs.Common.{◌≡◌, ◌++◌, flat_map, take}
use Rattle.std.specs.List.{enumerate_from}
use Rattle.pg_notes.specs.EnumNotes.{value_notes}
use Rattle.pg_notes.proofs.enums.tell_enum.Given as goal

abbrev pub invariant-loop-index : goal.invariant-loop-index
invariant-loop-index l =
    l.told.items ≡ l.fn.told.items
    ++ flat_map (λ at. value_notes l.new.enums l.new.values.now at.0 at.1) (take l.index (enumerate_from 0 l.values))
