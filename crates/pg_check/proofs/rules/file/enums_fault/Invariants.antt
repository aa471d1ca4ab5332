use Rattle.std.proofs.Common.{◌≡◌, None, map, drop}
use Rattle.pg_check.specs.inner.Faults.{earliest}
use Rattle.pg_check.specs.inner.FileFaults.{found_fault}
use Rattle.pg_check.specs.inner.CodeViews.{enumeration}
use Rattle.pg_check.proofs.rules.file.enums_fault.Given as goal

abbrev pub invariant-loop-found : goal.invariant-loop-found
invariant-loop-found l = earliest found_fault l.fault (map enumeration (drop l.found-index l.enums)) ≡ earliest found_fault None (map enumeration l.enums)
