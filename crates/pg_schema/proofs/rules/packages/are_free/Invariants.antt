use Rattle.std.proofs.Common.{◌≡◌, ℕ, List, true, take}
use Rattle.pg_schema.specs.rules.Packages.{are_free_of}
use Rattle.pg_schema.specs.inner.LentTexts.{IsLentSetOf}
use Rattle.pg_schema.proofs.rules.packages.are_free.Given as goal

abbrev pub invariant-loop-file : goal.invariant-loop-file
invariant-loop-file l = (names : List (List ℕ)) → IsLentSetOf names l.set → are_free_of names (take l.file-index l.files) ≡ true
