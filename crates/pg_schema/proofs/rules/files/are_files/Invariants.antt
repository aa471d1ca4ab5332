use Rattle.std.proofs.Common.{◌≡◌, true, take}
use Rattle.std.specs.List.{list_all}
use Rattle.pg_schema.specs.rules.Files.{is_file}
use Rattle.pg_schema.proofs.rules.files.are_files.Given as goal

abbrev pub invariant-loop-file : goal.invariant-loop-file
invariant-loop-file l = list_all (is_file) (take l.file-index l.files) ≡ true
