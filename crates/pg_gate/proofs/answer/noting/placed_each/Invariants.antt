use Rattle.std.proofs.Common.{◌≡◌, map, take}
use Rattle.pg_gate.specs.answer.Notes.{named, named_note}
use Rattle.pg_gate.proofs.answer.noting.placed_each.Given as goal

-- the notes before the index
abbrev pub invariant-loop-note : goal.invariant-loop-note
invariant-loop-note l =
    map named l.placed.items ≡ map (named_note l.sides.old.schema.now l.sides.new.schema.now) (take l.note-index l.told)
