-- The types before the index have their lines.
use Rattle.std.proofs.Common.{◌≡◌, ◌++◌, take}
use Rattle.pg_lines.specs.Line.{lines_in}
use Rattle.pg_gate.specs.print.Lines.{type_lines}
use Rattle.pg_gate.proofs.print.lines.add_types.Given as goal

abbrev pub invariant-loop-line : goal.invariant-loop-line
invariant-loop-line l = lines_in l.lines.items ≡ lines_in l.initial.lines.items ++ type_lines (take l.line-index l.types)
