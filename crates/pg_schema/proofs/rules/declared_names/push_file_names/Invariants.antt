use Rattle.std.proofs.Common.{◌≡◌, ◌++◌, take, map}
use Rattle.std.specs.List.{flat_map}
use Rattle.std.specs.String.{string_bytes}
use Rattle.pg_schema.specs.rules.DeclaredNames.{file_names}
use Rattle.pg_schema.proofs.rules.declared_names.push_file_names.Given as goal

abbrev pub invariant-loop-file : goal.invariant-loop-file
invariant-loop-file l = map string_bytes l.names.items ≡ map string_bytes l.fn.names.items ++ flat_map (file_names l.enums) (take l.file-index l.files)
