-- The enums before the index are told of.
use Rattle.std.proofs.Common.{◌≡◌, ◌++◌, flat_map, take}
use Rattle.std.specs.List.{enumerate_from}
use Rattle.pg_notes.specs.Named.{place_of}
use Rattle.pg_notes.specs.Notes.{enum_beside, enum_name}
use Rattle.pg_notes.proofs.telling.tell_enums.Given as goal

abbrev pub invariant-loop-index : goal.invariant-loop-index
invariant-loop-index l =
    l.told.items ≡ l.fn.told.items
    ++ flat_map (λ at. enum_beside l.new at.0 at.1 (place_of enum_name l.new.enums.items (enum_name at.1))) (take l.index (enumerate_from 0 l.old_enums))
