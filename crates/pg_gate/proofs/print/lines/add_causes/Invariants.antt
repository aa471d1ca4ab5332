-- The causes before the index have their lines.
use Rattle.std.proofs.Common.{◌≡◌, ◌++◌, take}
use Rattle.std.specs.List.{flat_map}
use Rattle.pg_lines.specs.Line.{lines_in}
use Rattle.pg_gate.specs.print.Lines.{cause_lines}
use Rattle.pg_gate.proofs.print.lines.add_causes.Given as goal

abbrev pub invariant-loop-cause : goal.invariant-loop-cause
invariant-loop-cause l = lines_in l.lines.items ≡ lines_in l.initial.lines.items ++ flat_map cause_lines (take l.cause-index l.causes)
