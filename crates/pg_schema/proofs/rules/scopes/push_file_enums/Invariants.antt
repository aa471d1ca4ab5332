use Rattle.std.proofs.Common.{◌≡◌, ◌++◌, take}
use Rattle.pg_schema.specs.rules.Scopes.{file_enums}
use Rattle.pg_schema.proofs.rules.scopes.push_file_enums.Given as goal

abbrev pub invariant-loop-file : goal.invariant-loop-file
invariant-loop-file l = l.places.items ≡ l.fn.places.items ++ file_enums (take l.file-index l.files)
