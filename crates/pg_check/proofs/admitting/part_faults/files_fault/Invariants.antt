use Rattle.std.proofs.Common.{◌≡◌, drop}
use Rattle.pg_check.specs.inner.Faults.{first_fault}
use Rattle.pg_check.specs.inner.PartFaults.{file_fault}
use Rattle.pg_check.proofs.admitting.part_faults.files_fault.Given as goal

abbrev pub invariant-loop-file : goal.invariant-loop-file
invariant-loop-file l = first_fault file_fault (drop l.file-index l.files) ≡ first_fault file_fault l.files
