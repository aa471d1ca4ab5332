use Rattle.std.proofs.Common.{◌≡◌, map, take, true}
use Rattle.std.specs.List.{list_all}
use Rattle.pg_dyn.specs.message.Kept.{message_of}
use Rattle.pg_set.specs.stated.FileMessages.{is_proto3}
use Rattle.pg_set.proofs.reading.are_proto3.Given as goal

abbrev pub invariant-loop-file : goal.invariant-loop-file
invariant-loop-file l = list_all is_proto3 (map message_of (take l.file-index l.files)) ≡ true
