use Rattle.std.proofs.Common.{◌≡◌, true, take}
use Rattle.std.specs.List.{list_all}
use Rattle.pg_schema.specs.rules.Files.{is_file_option}
use Rattle.pg_schema.proofs.rules.files.are_file_options.Given as goal

abbrev pub invariant-loop-option : goal.invariant-loop-option
invariant-loop-option l = list_all (is_file_option) (take l.option-index l.options) ≡ true
