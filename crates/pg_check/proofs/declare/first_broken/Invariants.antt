use Rattle.std.proofs.Common.{◌≡◌, map, drop}
use Rattle.pg_check.specs.inner.FirstBroken.{files_fault, first_broken}
use Rattle.pg_check.specs.inner.Sources.{source}
use Rattle.pg_check.proofs.declare.first_broken.Given as goal

abbrev pub invariant-loop-index : goal.invariant-loop-index
invariant-loop-index l = files_fault l.left l.index (map source (drop l.index l.files)) ≡ first_broken (map source l.files)
