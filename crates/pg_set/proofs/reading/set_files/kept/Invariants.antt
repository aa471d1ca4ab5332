use Rattle.std.proofs.Common.{◌≡◌, filter, map, not, take}
use Rattle.pg_dyn.specs.message.Kept.{message_of}
use Rattle.pg_set.specs.stated.FileMessages.{is_skipped}
use Rattle.pg_set.proofs.reading.set_files.kept.Given as goal

abbrev pub invariant-loop-file : goal.invariant-loop-file
invariant-loop-file l = map message_of l.kept.items ≡ filter (λ m. not (is_skipped m)) (map message_of (take l.file-index l.files))
