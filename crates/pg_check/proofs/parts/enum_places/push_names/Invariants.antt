use Rattle.std.proofs.Common.{◌≡◌, ◌++◌, map, string_bytes, take}
use Rattle.pg_check.specs.parts.EnumPlaces.{enum_full}
use Rattle.pg_check.specs.inner.CodeViews.{enumeration}
use Rattle.pg_check.proofs.parts.enum_places.push_names.Given as goal

abbrev pub invariant-loop-one : goal.invariant-loop-one
invariant-loop-one l = map string_bytes l.names.items ≡ map string_bytes l.fn.names.items ++ map enum_full (map enumeration (take l.one-index l.found))
