use Rattle.std.proofs.Common.{◌≡◌, true, take}
use Rattle.std.specs.List.{list_all}
use Rattle.pg_set.specs.inner.writing.Writable.{has_counted_imports}
use Rattle.pg_set.proofs.writing.have_counted_imports.Given as goal

abbrev pub invariant-loop-file : goal.invariant-loop-file
invariant-loop-file l = list_all has_counted_imports (take l.file-index l.files) ≡ true
