use Rattle.std.proofs.Common.{◌≡◌, ◌++◌, drop, map}
use Rattle.pg_set.specs.inner.Lent.{lent}
use Rattle.pg_set.specs.inner.reading.MadeImports.{import_of}
use Rattle.pg_set.specs.stated.FileMessages.{kept_imports}
use Rattle.pg_set.proofs.reading.made_files.kept.Given as goal

abbrev pub invariant-loop-place : goal.invariant-loop-place
invariant-loop-place l = map import_of l.imports.items ++ kept_imports l.skips l.public l.place (lent (drop l.place l.paths)) ≡ kept_imports l.skips l.public 0 (lent l.paths)
