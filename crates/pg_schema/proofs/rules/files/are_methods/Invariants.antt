use Rattle.std.proofs.Common.{◌≡◌, true, take}
use Rattle.std.specs.List.{list_all}
use Rattle.pg_schema.specs.rules.Files.{is_method}
use Rattle.pg_schema.proofs.rules.files.are_methods.Given as goal

abbrev pub invariant-loop-method : goal.invariant-loop-method
invariant-loop-method l = list_all (is_method l.types) (take l.method-index l.methods) ≡ true
