use Rattle.std.proofs.Common.{◌≡◌, ◌++◌, flat_map, map, take}
use Rattle.pg_check.specs.parts.MadeFiles.{file_import, import_in}
use Rattle.pg_check.proofs.parts.made_file.push_imports.Given as goal

abbrev pub invariant-loop-statement : goal.invariant-loop-statement
invariant-loop-statement l = map file_import l.imports.items ≡ map file_import l.fn.imports.items ++ flat_map import_in (take l.statement-index l.statements)
