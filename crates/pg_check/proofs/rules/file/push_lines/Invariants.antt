use Rattle.std.proofs.Common.{◌≡◌, ◌++◌, flat_map, map, take}
use Rattle.pg_check.specs.inner.OptionFaults.{stated}
use Rattle.pg_check.specs.rules.Files.{file_line}
use Rattle.pg_check.proofs.rules.file.push_lines.Given as goal

abbrev pub invariant-loop-statement : goal.invariant-loop-statement
invariant-loop-statement l = map stated l.lines.items ≡ map stated l.fn.lines.items ++ flat_map file_line (take l.statement-index l.statements)
