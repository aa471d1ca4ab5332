-- The paths before the index are copied.
use Rattle.std.proofs.Common.{◌≡◌, take}
use Rattle.pg_call.specs.Paths.{paths_of}
use Rattle.pg_gate.proofs.answer.lists.copied.Given as goal

abbrev pub invariant-loop-path : goal.invariant-loop-path
invariant-loop-path l = paths_of l.all.items ≡ paths_of (take l.path-index l.paths)
