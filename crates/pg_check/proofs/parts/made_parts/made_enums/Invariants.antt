use Rattle.std.proofs.Common.{◌≡◌, map, take}
use Rattle.pg_check.specs.parts.MadeEnums.{enumeration, made_enum}
use Rattle.pg_check.specs.inner.CodeViews as outline
use Rattle.pg_check.proofs.parts.made_parts.made_enums.Given as goal

abbrev pub invariant-loop-one : goal.invariant-loop-one
invariant-loop-one l = map enumeration l.made.items ≡ map made_enum (map outline.enumeration (take l.one-index l.found))
