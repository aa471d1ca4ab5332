use Rattle.std.proofs.Common.{◌≡◌, map, string_bytes, take}
use Rattle.pg_check.specs.parts.EnumPlaces.{place_among, scoped_names}
use Rattle.pg_check.proofs.parts.enum_places.enum_places.Given as goal

abbrev pub invariant-loop-name : goal.invariant-loop-name
invariant-loop-name l = l.places.items ≡ map (place_among (scoped_names l.fn.linked.files)) (map string_bytes (take l.name-index l.declared))
