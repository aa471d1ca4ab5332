use Rattle.std.proofs.Common.{◌≡◌, map, take}
use Rattle.pg_set.specs.declared.descriptor.places.TheConstants.{FILE}
use Rattle.pg_set.specs.inner.writing.Drafts.{listed}
use Rattle.pg_set.specs.writing.Places.{declared_in}
use Rattle.pg_set.specs.writing.Set.{file_items}
use Rattle.pg_set.proofs.writing.files.files.Given as goal

abbrev pub invariant-loop-file : goal.invariant-loop-file
invariant-loop-file l = l.made ≡ listed FILE (map (file_items (declared_in l.writer)) (take l.file-index l.files))
