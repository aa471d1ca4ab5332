use Rattle.std.proofs.Common.{◌≡◌, map, take}
use Rattle.pg_check.specs.inner.OptionFaults.{stated}
use Rattle.pg_check.specs.rules.Files.{service_lines}
use Rattle.pg_check.proofs.rules.file.service_lines.Given as goal

abbrev pub invariant-loop-part : goal.invariant-loop-part
invariant-loop-part l = map stated l.lines.items ≡ service_lines (take l.part-index l.body)
