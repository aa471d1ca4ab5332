use Rattle.std.proofs.Common.{map, take}
use Rattle.pg_check.specs.parts.MadeParts.{ArePartsOf}
use Rattle.pg_check.specs.inner.Sources.{source}
use Rattle.pg_check.proofs.parts.made_parts.parts_of.Given as goal

abbrev pub invariant-loop-file : goal.invariant-loop-file
invariant-loop-file l = ArePartsOf (map source (take l.file-index l.files)) l.parts
