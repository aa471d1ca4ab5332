use Rattle.std.proofs.Common.{◌≡◌, ◌+◌, ◌<◌, Some, length, map, subst, arith}
use Rattle.std.proofs.lemmas.List.{length-map}
use Rattle.pg_check.specs.inner.FirstBroken.{IsBroken, first_broken}
use Rattle.pg_check.specs.inner.Sources.{source}
use Rattle.pg_check.proofs.lemmas.rules.FileFaults.{fault_within}
use Rattle.pg_check.proofs.building.schema_of.Goals as goal

pub first_error-requires-clause-within : goal.first_error-requires-clause-within
first_error-requires-clause-within c =
    let files = c.args.files.now in
    let found = c.in-Err-Broken.found in
    let first : first_broken (map source files) ≡ Some found = subst (IsBroken (map source files)) c.in-Err-Broken.field-0-is c.in-Err-Broken.ensures.refused in
    let less : found.file < 0 + length (map source files) = fault_within 4096 0 (map source files) found first in
    let same : length (map source files) ≡ length files = length-map files source in
    omega (arith, less, same)
