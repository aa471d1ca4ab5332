-- The notes before the index have their lines.
use Rattle.std.proofs.Common.{◌≡◌, ◌++◌, map, take}
use Rattle.pg_lines.specs.Line.{lines_in, note}
use Rattle.pg_gate.proofs.print.lines.add_notes.Given as goal

abbrev pub invariant-loop-note : goal.invariant-loop-note
invariant-loop-note l = lines_in l.lines.items ≡ lines_in l.initial.lines.items ++ map note (take l.note-index l.notes)
