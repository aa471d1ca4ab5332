use Rattle.std.proofs.Common.{◌≡◌, take}
use Rattle.std.specs.List.{flat_map}
use Rattle.pg_schema.specs.declared.parts.file.File.{File}
use Rattle.pg_schema.specs.rules.Scopes.{service_places}
use Rattle.pg_schema.proofs.rules.scopes.declared_services.Given as goal

abbrev pub invariant-loop-file : goal.invariant-loop-file
invariant-loop-file l = l.places.items ≡ flat_map (λ (f : File). service_places f.services.items) (take l.file-index l.files)
