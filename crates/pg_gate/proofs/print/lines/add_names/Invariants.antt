-- The names before the index have their lines.
use Rattle.std.proofs.Common.{◌≡◌, ◌++◌, take}
use Rattle.pg_lines.specs.Line.{lines_in}
use Rattle.pg_gate.specs.print.Lines.{name_lines}
use Rattle.pg_gate.proofs.print.lines.add_names.Given as goal

abbrev pub invariant-loop-name : goal.invariant-loop-name
invariant-loop-name l = lines_in l.lines.items ≡ lines_in l.initial.lines.items ++ name_lines l.listed (take l.name-index l.names)
