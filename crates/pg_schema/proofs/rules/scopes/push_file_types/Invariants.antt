use Rattle.std.proofs.Common.{◌≡◌, ◌++◌, take}
use Rattle.pg_schema.specs.rules.Scopes.{file_types}
use Rattle.pg_schema.proofs.rules.scopes.push_file_types.Given as goal

abbrev pub invariant-loop-file : goal.invariant-loop-file
invariant-loop-file l = l.places.items ≡ l.fn.places.items ++ file_types (take l.file-index l.files)
