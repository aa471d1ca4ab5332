use Rattle.std.proofs.Common.{◌∷◌, map}
use Rattle.std.specs.String.{string_bytes}
use Rattle.pg_set.specs.inner.Declarations.{package_declared, package_part}
use Rattle.pg_set.proofs.lemmas.outline.Declaring.{Left}
use Rattle.pg_set.proofs.lemmas.outline.Fronts.{parts_from}
use Rattle.pg_set.proofs.reading.declare.declare_package.Given as goal

abbrev pub invariant-loop-letter : goal.invariant-loop-letter
invariant-loop-letter l = Left (map package_part (parts_from (string_bytes l.front) l.letter-iterator.rest.now)) (package_declared (46 ∷ l.path)) l.names l.fn.names
