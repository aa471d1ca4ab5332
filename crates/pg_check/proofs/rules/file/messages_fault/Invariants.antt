use Rattle.std.proofs.Common.{◌≡◌, None, map, drop}
use Rattle.pg_check.specs.inner.Faults.{earliest}
use Rattle.pg_check.specs.inner.FileFaults.{message_fault}
use Rattle.pg_check.specs.inner.CodeViews.{message}
use Rattle.pg_check.proofs.rules.file.messages_fault.Given as goal
use Rattle.pg_check.specs.inner.Sources.{target_in}

abbrev pub invariant-loop-found : goal.invariant-loop-found
invariant-loop-found l = earliest (message_fault (target_in l.targets)) l.fault (map message (drop l.found-index l.messages)) ≡ earliest (message_fault (target_in l.targets)) None (map message l.messages)
