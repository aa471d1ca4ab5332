use Rattle.std.proofs.Common.{◌≡◌, map, take, true}
use Rattle.std.specs.List.{list_all}
use Rattle.pg_dyn.specs.message.Kept.{message_of}
use Rattle.pg_set.specs.stated.Codes.{file_has_types}
use Rattle.pg_set.proofs.reading.codes.files_have_types.Given as goal

abbrev pub invariant-loop-file : goal.invariant-loop-file
invariant-loop-file l = list_all file_has_types (map message_of (take l.file-index l.files)) ≡ true
