-- The steps before the index have their lines.
use Rattle.std.proofs.Common.{◌≡◌, ◌++◌, map, take}
use Rattle.pg_lines.specs.Line.{lines_in, step}
use Rattle.pg_gate.proofs.print.lines.add_steps.Given as goal

abbrev pub invariant-loop-step : goal.invariant-loop-step
invariant-loop-step l = lines_in l.lines.items ≡ lines_in l.initial.lines.items ++ map step (take l.step-index l.steps)
