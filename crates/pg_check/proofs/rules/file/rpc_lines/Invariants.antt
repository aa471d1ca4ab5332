use Rattle.std.proofs.Common.{◌≡◌, map, take}
use Rattle.pg_check.specs.inner.OptionFaults.{stated}
use Rattle.pg_check.specs.rules.Files.{rpc_lines}
use Rattle.pg_check.proofs.rules.file.rpc_lines.Given as goal

abbrev pub invariant-loop-part : goal.invariant-loop-part
invariant-loop-part l = map stated l.lines.items ≡ rpc_lines (take l.part-index l.body)
