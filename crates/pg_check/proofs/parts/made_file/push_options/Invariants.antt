use Rattle.std.proofs.Common.{◌≡◌, ◌++◌, flat_map, map, take}
use Rattle.pg_check.specs.parts.MadeFiles.{file_option, option_in}
use Rattle.pg_check.proofs.parts.made_file.push_options.Given as goal

abbrev pub invariant-loop-statement : goal.invariant-loop-statement
invariant-loop-statement l = map file_option l.options.items ≡ map file_option l.fn.options.items ++ flat_map option_in (take l.statement-index l.statements)
