use Rattle.std.proofs.Common.{◌≡◌, drop}
use Rattle.pg_link.specs.inner.Index.{sees_one}
use Rattle.pg_link.proofs.names.index.sees_one.Given as goal

abbrev pub invariant-loop-file : goal.invariant-loop-file
invariant-loop-file l = sees_one l.visible.marks.now (drop l.file-index l.files) ≡ sees_one l.visible.marks.now l.files
