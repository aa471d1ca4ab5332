use Rattle.std.proofs.Common.{◌≡◌, map, take}
use Rattle.std.specs.String.{string_bytes}
use Rattle.pg_schema.specs.declared.parts.file.Import.{Import}
use Rattle.pg_set.proofs.writing.files.paths.Given as goal

abbrev pub invariant-loop-import : goal.invariant-loop-import
invariant-loop-import l = map string_bytes l.paths.items ≡ map (λ (i : Import). string_bytes i.path) (take l.import-index l.imports)
