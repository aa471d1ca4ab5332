use Rattle.std.proofs.Common.{◌≡◌, drop}
use Rattle.pg_check.specs.inner.Faults.{first_fault}
use Rattle.pg_check.specs.inner.FileFaults.{part_fault}
use Rattle.pg_check.proofs.rules.file.rpcs_fault.Given as goal

abbrev pub invariant-loop-part : goal.invariant-loop-part
invariant-loop-part l = first_fault part_fault (drop l.part-index l.body) ≡ first_fault part_fault l.body
