-- The methods before the index are told of.
use Rattle.std.proofs.Common.{◌≡◌, ◌++◌, [], ◌∷◌, None, flat_map, take}
use Rattle.std.specs.List.{enumerate_from}
use Rattle.pg_notes.specs.declared.note.Note.TheVariants.{MethodGone}
use Rattle.pg_notes.proofs.services.tell_gone.Given as goal

abbrev pub invariant-loop-index : goal.invariant-loop-index
invariant-loop-index l =
    l.told.items ≡ l.fn.told.items ++ flat_map (λ at. MethodGone l.service at.0 None ∷ []) (take l.index (enumerate_from 0 l.methods))
