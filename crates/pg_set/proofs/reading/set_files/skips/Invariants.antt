use Rattle.std.proofs.Common.{◌≡◌, false, map, take}
use Rattle.std.specs.List.{list_any}
use Rattle.pg_dyn.specs.message.Kept.{message_of}
use Rattle.pg_set.specs.stated.FileMessages.{is_skipped}
use Rattle.pg_set.proofs.reading.set_files.skips.Given as goal

abbrev pub invariant-loop-file : goal.invariant-loop-file
invariant-loop-file l = list_any is_skipped (map message_of (take l.file-index l.files)) ≡ false
