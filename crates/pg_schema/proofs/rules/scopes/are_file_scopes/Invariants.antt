use Rattle.std.proofs.Common.{◌≡◌, true, take}
use Rattle.std.specs.List.{list_all}
use Rattle.pg_schema.specs.rules.Scopes.{is_file_scope}
use Rattle.pg_schema.proofs.rules.scopes.are_file_scopes.Given as goal

abbrev pub invariant-loop-file : goal.invariant-loop-file
invariant-loop-file l = list_all (is_file_scope l.types l.enums l.services) (take l.file-index l.files) ≡ true
